use borrow.Author.Rules.{rules}
use Rattle.table.specs.Drop.{lower_laws}
use Rattle.table.proofs.drop.sift.Goals as goal

pub returns : goal.returns
returns c = search (rules, lower_laws)
