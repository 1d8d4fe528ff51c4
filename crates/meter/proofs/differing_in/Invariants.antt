use Rattle.std.proofs.Common.{◌≡◌, ◌≤◌}
use Rattle.bounded.specs.Sum.{sum_to}
use Rattle.meter.specs.Code.{apart_at}
use Rattle.meter.proofs.differing_in.Given as goal

abbrev pub invariant-loop-x : goal.invariant-loop-x
invariant-loop-x l = (l.sum ≡ sum_to (apart_at l.s l.p l.q) l.x) × (l.sum ≤ l.x)
