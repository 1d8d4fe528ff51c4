use Rattle.planning.specs.Put.{costs_laws}
use borrow.Author.Rules.{rules}
use Rattle.planning.proofs.put_costs.Goals as goal

pub count-rows-requires : goal.count-rows-requires
count-rows-requires c = search (rules, costs_laws)

pub loop-i-init : goal.loop-i-init
loop-i-init c = search (rules, costs_laws)

pub put_row_costs-e-requires : goal.put_row_costs-e-requires
put_row_costs-e-requires c = search (rules, costs_laws)

pub loop-i-preserved : goal.loop-i-preserved
loop-i-preserved c = search (rules, costs_laws)

pub shape_of-out : goal.shape_of-out
shape_of-out c = search (rules, costs_laws)

pub returns : goal.returns
returns c = search (rules, costs_laws)
