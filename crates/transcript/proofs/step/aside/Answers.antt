use borrow.Author.Rules.{rules}
use Rattle.transcript.specs.Step.{step_of}
use Rattle.transcript.specs.Play.{aside_laws}
use Rattle.transcript.proofs.step.aside.Goals as goal

pub queue-requires : goal.queue-requires
queue-requires c = search (rules, aside_laws)

pub returns-in-Word : goal.returns-in-Word
returns-in-Word c = search (rules, aside_laws)

pub returns-in-Call : goal.returns-in-Call
returns-in-Call c = search (rules, aside_laws)

pub returns-in-Row : goal.returns-in-Row
unfolding step_of
returns-in-Row c = search (rules, aside_laws)
