use Rattle.meter.specs.Code.{alike_laws}
use borrow.Author.Rules.{rules}
use Rattle.meter.proofs.Schedule.alike_at.Goals as goal

pub loop-j-init : goal.loop-j-init
loop-j-init c = search (rules, alike_laws)

pub like-c-requires : goal.like-c-requires
like-c-requires c = search (rules, alike_laws)

pub loop-j-preserved : goal.loop-j-preserved
loop-j-preserved c = search (rules, alike_laws)

pub returns : goal.returns
returns c = search (rules, alike_laws)
