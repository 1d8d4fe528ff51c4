use borrow.Author.Rules.{rules}
use Rattle.table.specs.Drop.{surplus_laws}
use Rattle.table.proofs.drop.surplus.Goals as goal

pub overflow_mul-result : goal.overflow_mul-result
overflow_mul-result c = search (rules, surplus_laws)

pub returns : goal.returns
returns c = search (rules, surplus_laws)
