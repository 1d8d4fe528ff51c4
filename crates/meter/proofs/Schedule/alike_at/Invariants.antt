use Rattle.std.proofs.Common.{◌+◌, ◌≡◌, ◌≤◌}
use Rattle.bounded.specs.Sum.{sum_to}
use Rattle.meter.specs.Code.{like_at, counts_to}
use Rattle.meter.proofs.Schedule.alike_at.Given as goal

abbrev pub invariant-loop-j : goal.invariant-loop-j
invariant-loop-j l = (l.c ≡ sum_to (like_at l.self.rows.now l.self.shape l.k l.t) l.j) × (l.c ≤ l.j) × (l.counts ≡ counts_to l.self.rows.now l.self.shape l.k (l.t + 1) l.initial.counts l.j)
