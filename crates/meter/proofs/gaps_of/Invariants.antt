use Rattle.std.proofs.Common.{◌≡◌}
use Rattle.meter.specs.Code.{gaps_to}
use Rattle.meter.proofs.gaps_of.Given as goal

abbrev pub invariant-loop-i : goal.invariant-loop-i
invariant-loop-i l = (l.gaps ≡ gaps_to l.n l.i)
