use borrow.Author.Rules.{rules}
use Rattle.batch.specs.Walk.{known_sound}
use Rattle.batch.proofs.checked.Goals as goal

pub returns : goal.returns
returns c = search (rules, known_sound)
