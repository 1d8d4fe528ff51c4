use Rattle.meter.specs.Code.{summing_laws}
use borrow.Author.Rules.{rules}
use Rattle.meter.proofs.Schedule.stretch.Goals as goal

pub loop-t-init : goal.loop-t-init
loop-t-init c = search (rules, summing_laws)

pub loop-t-preserved : goal.loop-t-preserved
loop-t-preserved c = search (rules, summing_laws)

pub returns : goal.returns
returns c = search (rules, summing_laws)
