use Rattle.std.proofs.Common.{◌≡◌}
use Rattle.workload.specs.Line.{until_to}
use Rattle.workload.proofs.line.until_next.Given as goal

abbrev pub invariant-loop-i : goal.invariant-loop-i
invariant-loop-i l = (l.m ≡ until_to l.s l.i)
