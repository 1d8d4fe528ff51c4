use Rattle.transcript.specs.Play.{part_is}
use Rattle.transcript.proofs.NotCall.{not_call}
use Rattle.response.specs.Note.{step_laws}
use borrow.Author.Rules.{rules}
use Rattle.response.proofs.walk.step.Goals as goal

pub returns-in_default : goal.returns-in_default
returns-in_default c = search (rules, step_laws, part_is, not_call)

pub note-requires : goal.note-requires
note-requires c = search (rules, step_laws, part_is, not_call)

pub returns : goal.returns
returns c = search (rules, step_laws, part_is, not_call)
