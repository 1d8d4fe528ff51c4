use Rattle.std.proofs.Common.{◌-◌, ◌≤◌}
use Rattle.table.specs.Rows.{tasks_of}
use Rattle.table.specs.Settle.{Rising}
use Rattle.table.proofs.settle.climb.Given as goal

abbrev pub invariant-loop-r : goal.invariant-loop-r
invariant-loop-r l = (Rising (tasks_of l.table.words.now) l.from l.r l.sums) × (l.lag ≤ 256)

abbrev pub decreases-loop-r : goal.decreases-loop-r
decreases-loop-r l = 1000001 - l.r
