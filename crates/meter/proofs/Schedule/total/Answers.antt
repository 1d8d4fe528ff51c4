use Rattle.meter.specs.Code.{total_laws}
use borrow.Author.Rules.{rules}
use Rattle.meter.proofs.Schedule.total.Goals as goal

pub loop-k-init : goal.loop-k-init
loop-k-init c = search (rules, total_laws)

pub loop-k-preserved : goal.loop-k-preserved
loop-k-preserved c = search (rules, total_laws)

pub returns : goal.returns
returns c = search (rules, total_laws)
