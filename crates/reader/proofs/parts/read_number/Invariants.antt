use Rattle.reader.specs.Code.{Digits}
use Rattle.reader.proofs.parts.read_number.Given as goal

abbrev pub invariant-loop-i : goal.invariant-loop-i
invariant-loop-i l = Digits l.text l.at l.value l.i
