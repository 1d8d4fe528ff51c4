use borrow.Author.Rules.{rules}
use Rattle.edf.specs.Demand.{interference}
use Rattle.table.specs.Bound.{total_laws}
use Rattle.table.proofs.budgets.interfering.Goals as goal

pub loop-j-init : goal.loop-j-init
loop-j-init c = search (rules, total_laws)

pub overflow_add-sum : goal.overflow_add-sum
overflow_add-sum c = search (rules, total_laws)

pub loop-j-preserved : goal.loop-j-preserved
loop-j-preserved c = search (rules, total_laws)

pub returns : goal.returns
unfolding interference
returns c = search (rules, total_laws)
