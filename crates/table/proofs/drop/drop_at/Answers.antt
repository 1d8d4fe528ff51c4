use borrow.Author.Rules.{rules}
use Rattle.table.specs.Drop.{drop_at}
use Rattle.table.proofs.drop.drop_at.Goals as goal

pub returns : goal.returns
returns c = search (rules, drop_at)
