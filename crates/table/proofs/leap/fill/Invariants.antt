use Rattle.table.specs.Leap.{Filled}
use Rattle.table.specs.Rows.{tasks_of}
use Rattle.table.proofs.leap.fill.Given as goal

abbrev pub invariant-loop-i : goal.invariant-loop-i
invariant-loop-i l = Filled (tasks_of l.table.words.now) l.r l.b l.i l.f
