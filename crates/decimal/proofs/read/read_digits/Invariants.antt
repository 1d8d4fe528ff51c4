use Rattle.decimal.specs.Number.{Read}
use Rattle.decimal.proofs.read.read_digits.Given as goal

abbrev pub invariant-loop-b : goal.invariant-loop-b
invariant-loop-b l = Read l.field l.value l.b-index
