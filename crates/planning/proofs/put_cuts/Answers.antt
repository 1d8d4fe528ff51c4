use Rattle.planning.specs.Put.{cuts_laws}
use borrow.Author.Rules.{rules}
use Rattle.planning.proofs.put_cuts.Goals as goal

pub count-rows-requires : goal.count-rows-requires
count-rows-requires c = search (rules, cuts_laws)

pub overflow_sub-excess : goal.overflow_sub-excess
overflow_sub-excess c = search (rules, cuts_laws)

pub loop-i-init : goal.loop-i-init
loop-i-init c = search (rules, cuts_laws)

pub cut-k-requires : goal.cut-k-requires
cut-k-requires c = search (rules, cuts_laws)

pub put_line-e-requires : goal.put_line-e-requires
put_line-e-requires c = search (rules, cuts_laws)

pub loop-i-preserved : goal.loop-i-preserved
loop-i-preserved c = search (rules, cuts_laws)

pub shape_of-out : goal.shape_of-out
shape_of-out c = search (rules, cuts_laws)

pub returns : goal.returns
returns c = search (rules, cuts_laws)
