use Rattle.meter.specs.Code.{gaps_laws}
use borrow.Author.Rules.{rules}
use Rattle.meter.proofs.gaps_of.Goals as goal

pub loop-i-init : goal.loop-i-init
loop-i-init c = search (rules, gaps_laws)

pub overflow_sub-gaps : goal.overflow_sub-gaps
overflow_sub-gaps c = search (rules, gaps_laws)

pub loop-i-preserved : goal.loop-i-preserved
loop-i-preserved c = search (rules, gaps_laws)

pub returns : goal.returns
returns c = search (rules, gaps_laws)
