use borrow.Author.Rules.{rules}
use Rattle.batch.specs.Walk.{filled_is}
use Rattle.batch.proofs.filled.Goals as goal

pub returns : goal.returns
returns c = search (rules, filled_is)
