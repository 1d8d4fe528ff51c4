use Rattle.table.specs.Drop.{Held}
use Rattle.table.specs.Rows.{tasks_of}
use Rattle.table.proofs.drop.hold.Given as goal

abbrev pub invariant-loop-i : goal.invariant-loop-i
invariant-loop-i l = Held (tasks_of l.table.words.now) l.t l.b l.i l.h
