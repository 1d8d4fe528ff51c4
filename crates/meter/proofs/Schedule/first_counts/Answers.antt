use Rattle.meter.specs.Code.{first_laws}
use borrow.Author.Rules.{rules}
use Rattle.meter.proofs.Schedule.first_counts.Goals as goal

pub loop-j-init : goal.loop-j-init
loop-j-init c = search (rules, first_laws)

pub loop-j-preserved : goal.loop-j-preserved
loop-j-preserved c = search (rules, first_laws)

pub returns : goal.returns
returns c = search (rules, first_laws)
