use Rattle.std.proofs.Common.{◌-◌, ◌≤◌}
use Rattle.table.specs.Busy.{Turn}
use Rattle.table.specs.Rows.{tasks_of}
use Rattle.table.proofs.busy.busy_length.Given as goal

abbrev pub invariant-loop-r : goal.invariant-loop-r
invariant-loop-r l = (Turn (tasks_of l.table.words.now) l.r l.sums) × (l.lag ≤ 256)

abbrev pub decreases-loop-r : goal.decreases-loop-r
decreases-loop-r l = 1000000 - l.r
