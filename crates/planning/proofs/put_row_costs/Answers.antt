use Rattle.planning.specs.Put.{row_laws}
use borrow.Author.Rules.{rules}
use Rattle.planning.proofs.put_row_costs.Goals as goal

pub count-rows-requires : goal.count-rows-requires
count-rows-requires c = search (rules, row_laws)

pub loop-j-init : goal.loop-j-init
loop-j-init c = search (rules, row_laws)

pub put_cost-e-requires : goal.put_cost-e-requires
put_cost-e-requires c = search (rules, row_laws)

pub loop-j-preserved : goal.loop-j-preserved
loop-j-preserved c = search (rules, row_laws)

pub shape_of-out : goal.shape_of-out
shape_of-out c = search (rules, row_laws)

pub returns : goal.returns
returns c = search (rules, row_laws)
