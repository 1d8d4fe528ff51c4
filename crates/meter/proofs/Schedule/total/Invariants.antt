use Rattle.std.proofs.Common.{◌*◌, ◌≡◌, ◌≤◌}
use Rattle.bounded.specs.Sum.{sum_to}
use Rattle.meter.specs.Meter.{stretch_of}
use Rattle.meter.proofs.Schedule.total.Given as goal

abbrev pub invariant-loop-k : goal.invariant-loop-k
invariant-loop-k l = (l.sum ≡ sum_to (stretch_of l.self.rows.now l.self.shape) l.k) × (l.sum ≤ 1032192 * l.k)
