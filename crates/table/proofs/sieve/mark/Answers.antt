use borrow.Author.Rules.{rules}
use Rattle.table.specs.Sieve.{marking_laws}
use Rattle.table.proofs.sieve.mark.Goals as goal

pub loop-x-init : goal.loop-x-init
loop-x-init c = search (rules, marking_laws)

pub offset_bounds-marks-x : goal.offset_bounds-marks-x
offset_bounds-marks-x c = search (rules, marking_laws)

pub bounds-marks-x : goal.bounds-marks-x
bounds-marks-x c = search (rules, marking_laws)

pub overflow_add-marks : goal.overflow_add-marks
overflow_add-marks c = search (rules, marking_laws)

pub bounds-marks-x-in-loop-x : goal.bounds-marks-x-in-loop-x
bounds-marks-x-in-loop-x c = search (rules, marking_laws)

pub overflow_add-x : goal.overflow_add-x
overflow_add-x c = search (rules, marking_laws)

pub loop-x-smaller : goal.loop-x-smaller
loop-x-smaller c = search (rules, marking_laws)

pub loop-x-preserved : goal.loop-x-preserved
loop-x-preserved c = search (rules, marking_laws)

pub shape_of-marks : goal.shape_of-marks
shape_of-marks c = search (rules, marking_laws)

pub returns : goal.returns
returns c = search (rules, marking_laws)
