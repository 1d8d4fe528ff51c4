use borrow.Author.Rules.{rules}
use Rattle.table.specs.Demand.{owe_laws}
use Rattle.table.proofs.demand.owe.Goals as goal

pub overflow_mul-result : goal.overflow_mul-result
overflow_mul-result c = search (rules, owe_laws)

pub returns : goal.returns
returns c = search (rules, owe_laws)
