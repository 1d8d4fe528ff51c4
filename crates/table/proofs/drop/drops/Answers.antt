use borrow.Author.Rules.{rules}
use Rattle.table.specs.Drop.{lower_laws}
use Rattle.table.proofs.drop.drops.Goals as goal

pub loop-init : goal.loop-init
loop-init c = search (rules, lower_laws)

pub drop_at-b-requires : goal.drop_at-b-requires
drop_at-b-requires c = search (rules, lower_laws)

pub returns-then-at-b : goal.returns-then-at-b
returns-then-at-b c = search (rules, lower_laws)

pub loop-preserved : goal.loop-preserved
loop-preserved c = search (rules, lower_laws)

pub returns : goal.returns
returns c = search (rules, lower_laws)
