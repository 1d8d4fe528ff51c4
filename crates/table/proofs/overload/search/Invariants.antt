use Rattle.std.proofs.Common.{◌≤◌}
use Rattle.table.specs.Overload.{Clear}
use Rattle.table.specs.Rows.{tasks_of}
use Rattle.table.proofs.overload.search.Given as goal

abbrev pub invariant-loop-t : goal.invariant-loop-t
invariant-loop-t l = (Clear (tasks_of l.table.words.now) l.floor l.end l.t l.sums) × (l.lag ≤ 256)

abbrev pub decreases-loop-t : goal.decreases-loop-t
decreases-loop-t l = l.t
