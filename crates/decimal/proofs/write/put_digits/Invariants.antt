use Rattle.std.proofs.Common.{length, ◌+◌, ◌≡◌}
use Rattle.decimal.specs.Decimal.{decimal}
use Rattle.decimal.specs.Written.{Filling}
use Rattle.decimal.proofs.write.put_digits.Given as goal

abbrev pub invariant-loop-rest : goal.invariant-loop-rest
invariant-loop-rest l = Filling l.n l.initial.out l.at l.out l.rest l.i × (l.e ≡ l.at + length (decimal l.n))

abbrev pub decreases-loop-rest : goal.decreases-loop-rest
decreases-loop-rest l = l.rest
