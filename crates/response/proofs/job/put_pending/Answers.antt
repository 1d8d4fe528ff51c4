use Rattle.response.specs.Put.{pending_laws}
use borrow.Author.Rules.{rules}
use Rattle.response.proofs.job.put_pending.Goals as goal

pub count-rows-requires : goal.count-rows-requires
count-rows-requires c = search (rules, pending_laws)

pub loop-i-init : goal.loop-i-init
loop-i-init c = search (rules, pending_laws)

pub put_waiting-e-requires : goal.put_waiting-e-requires
put_waiting-e-requires c = search (rules, pending_laws)

pub loop-i-preserved : goal.loop-i-preserved
loop-i-preserved c = search (rules, pending_laws)

pub shape_of-out : goal.shape_of-out
shape_of-out c = search (rules, pending_laws)

pub returns : goal.returns
returns c = search (rules, pending_laws)
