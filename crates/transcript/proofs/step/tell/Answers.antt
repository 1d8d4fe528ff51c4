use Rattle.transcript.specs.Moves.{told_by}
use borrow.Author.Rules.{rules}
use Rattle.transcript.proofs.step.tell.Goals as goal

pub returns : goal.returns
returns c = search (rules, told_by)
