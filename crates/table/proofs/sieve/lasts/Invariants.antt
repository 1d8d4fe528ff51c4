use Rattle.table.specs.Sieve.{Lasting}
use Rattle.table.proofs.sieve.lasts.Given as goal

abbrev pub invariant-loop-j : goal.invariant-loop-j
invariant-loop-j l = Lasting l.marks l.s l.j l.sum
