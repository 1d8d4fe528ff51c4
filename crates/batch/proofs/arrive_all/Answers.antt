use Rattle.batch.specs.Walk.{walk_start, walk_next, walk_done}
use borrow.Author.Rules.{rules}
use Rattle.batch.proofs.arrive_all.Goals as goal

pub loop-i-init : goal.loop-i-init
loop-i-init c = (walk_start c.args.s c.args.list.now, c.checked-shared.ensures)

pub loop-i-preserved : goal.loop-i-preserved
loop-i-preserved c =
    (walk_next _ _ _ _ _ _ _ c.loop-i.invariant.0 c.arrive_checked-o.ensures.0 c.filled.ensures, c.arrive_checked-o.ensures.1)

pub returns : goal.returns
returns c = walk_done _ _ _ _ _ c.loop-i.invariant.0 (search rules)
