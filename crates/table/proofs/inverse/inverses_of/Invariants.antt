use Rattle.std.proofs.Common.{◌≡◌}
use Rattle.table.specs.Inverse.{inverses_to}
use Rattle.table.specs.Rows.{tasks_of}
use Rattle.table.proofs.inverse.inverses_of.Given as goal

abbrev pub invariant-loop-i : goal.invariant-loop-i
invariant-loop-i l = (l.inverses ≡ inverses_to (tasks_of l.words) l.i)
