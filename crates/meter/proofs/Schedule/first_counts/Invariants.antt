use Rattle.std.proofs.Common.{replicate, ◌≡◌}
use Rattle.meter.specs.Code.{counts_to}
use Rattle.meter.proofs.Schedule.first_counts.Given as goal

abbrev pub invariant-loop-j : goal.invariant-loop-j
invariant-loop-j l = (l.counts ≡ counts_to l.self.rows.now l.self.shape l.k 0 (replicate 255 0) l.j)
