use borrow.Author.Rules.{rules}
use Rattle.table.specs.Leap.{further_laws}
use Rattle.table.proofs.leap.leaps.Goals as goal

pub loop-init : goal.loop-init
loop-init c = search (rules, further_laws)

pub returns-then-b-at : goal.returns-then-b-at
returns-then-b-at c = search (rules, further_laws)

pub loop-preserved : goal.loop-preserved
loop-preserved c = search (rules, further_laws)

pub returns : goal.returns
returns c = search (rules, further_laws)
