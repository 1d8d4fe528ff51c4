use Rattle.lesson.specs.Entry.{reading_laws}
use borrow.Author.Rules.{rules}
use Rattle.lesson.proofs.print.Goals as goal

pub loop-at-init : goal.loop-at-init
loop-at-init c = search (rules, reading_laws)

pub next_item-n-requires : goal.next_item-n-requires
next_item-n-requires c = search (rules, reading_laws)

pub slice_bounds-step-end : goal.slice_bounds-step-end
slice_bounds-step-end c = search (rules, reading_laws)

pub step-p-requires : goal.step-p-requires
step-p-requires c = search (rules, reading_laws)

pub shape_of-out-then-p : goal.shape_of-out-then-p
shape_of-out-then-p c = search (rules, reading_laws)

pub returns-then-p : goal.returns-then-p
returns-then-p c = search (rules, reading_laws)

pub loop-at-smaller : goal.loop-at-smaller
loop-at-smaller c = search (rules, reading_laws)

pub loop-at-preserved : goal.loop-at-preserved
loop-at-preserved c = search (rules, reading_laws)

pub slice_bounds-finish-end : goal.slice_bounds-finish-end
slice_bounds-finish-end c = search (rules, reading_laws)

pub finish-requires : goal.finish-requires
finish-requires c = search (rules, reading_laws)

pub shape_of-out : goal.shape_of-out
shape_of-out c = search (rules, reading_laws)

pub returns : goal.returns
returns c = search (rules, reading_laws)
