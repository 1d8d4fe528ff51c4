use Rattle.std.proofs.Common.{◌-◌}
use Rattle.table.specs.Sieve.{Marking}
use Rattle.table.proofs.sieve.mark.Given as goal

abbrev pub invariant-loop-x : goal.invariant-loop-x
invariant-loop-x l = Marking l.initial.marks l.marks l.a l.stride l.c l.x

abbrev pub decreases-loop-x : goal.decreases-loop-x
decreases-loop-x l = 256 - l.x
