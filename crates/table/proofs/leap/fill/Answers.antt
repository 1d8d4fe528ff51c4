use borrow.Author.Rules.{rules}
use Rattle.table.specs.Leap.{filled_laws}
use Rattle.table.proofs.leap.fill.Goals as goal

pub loop-i-init : goal.loop-i-init
loop-i-init c = search (rules, filled_laws)

pub with_row-f-requires : goal.with_row-f-requires
with_row-f-requires c = search (rules, filled_laws)

pub loop-i-preserved : goal.loop-i-preserved
loop-i-preserved c = search (rules, filled_laws)

pub returns : goal.returns
returns c = search (rules, filled_laws)
