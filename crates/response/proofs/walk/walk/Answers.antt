use Rattle.response.specs.Walk.{any_last, walk_laws}
use borrow.Author.Rules.{rules}
use Rattle.response.proofs.walk.walk.Goals as goal

pub responses-spans-requires : goal.responses-spans-requires
responses-spans-requires c = search (rules, walk_laws)

pub loop-at-init : goal.loop-at-init
loop-at-init c = search (rules, walk_laws)

pub next_line-n-requires : goal.next_line-n-requires
next_line-n-requires c = search (rules, walk_laws)

pub slice_bounds-step-end : goal.slice_bounds-step-end
slice_bounds-step-end c = search (rules, walk_laws)

pub step-d-requires : goal.step-d-requires
step-d-requires c = search (rules, walk_laws)

pub put_pending-requires : goal.put_pending-requires
put_pending-requires c =
    any_last _ _ _ _ _ _ _ _ _ _ _ _ _ c.loop-at.invariant _ _ _ _ _ _ c.step-d.ensures (search rules)

pub shape_of-out-then-p : goal.shape_of-out-then-p
shape_of-out-then-p c = search (rules, walk_laws)

pub returns-then-p : goal.returns-then-p
returns-then-p c = search (rules, walk_laws)

pub loop-at-smaller : goal.loop-at-smaller
loop-at-smaller c = search (rules, walk_laws)

pub loop-at-preserved : goal.loop-at-preserved
loop-at-preserved c = search (rules, walk_laws)

pub put_pending-requires-2 : goal.put_pending-requires-2
put_pending-requires-2 c = search (rules, walk_laws)

pub shape_of-out : goal.shape_of-out
shape_of-out c = search (rules, walk_laws)

pub returns : goal.returns
returns c = search (rules, walk_laws)
