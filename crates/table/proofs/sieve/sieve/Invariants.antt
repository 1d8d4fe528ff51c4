use Rattle.table.specs.Rows.{tasks_of}
use Rattle.table.specs.Sieve.{Sieving}
use Rattle.table.proofs.sieve.sieve.Given as goal

abbrev pub invariant-loop-i : goal.invariant-loop-i
invariant-loop-i l = Sieving (tasks_of l.table.words.now) l.at l.back l.i l.marks
