use borrow.Author.Rules.{rules}
use Rattle.edf.specs.Demand.{demand}
use Rattle.table.specs.Bound.{total_laws}
use Rattle.table.proofs.demand.demand_at.Goals as goal

pub loop-i-init : goal.loop-i-init
loop-i-init c = search (rules, total_laws)

pub overflow_add-sum : goal.overflow_add-sum
overflow_add-sum c = search (rules, total_laws)

pub loop-i-preserved : goal.loop-i-preserved
loop-i-preserved c = search (rules, total_laws)

pub returns : goal.returns
unfolding demand
returns c = search (rules, total_laws)
