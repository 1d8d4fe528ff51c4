use borrow.Author.Rules.{rules}
use Rattle.table.specs.Drop.{held_laws}
use Rattle.table.proofs.drop.hold.Goals as goal

pub loop-i-init : goal.loop-i-init
loop-i-init c = search (rules, held_laws)

pub with_row-h-requires : goal.with_row-h-requires
with_row-h-requires c = search (rules, held_laws)

pub loop-i-preserved : goal.loop-i-preserved
loop-i-preserved c = search (rules, held_laws)

pub returns : goal.returns
returns c = search (rules, held_laws)
