use Rattle.workload.specs.Rows.{Turn}
use Rattle.workload.proofs.rows.put_rows.Given as goal

abbrev pub invariant-loop-i : goal.invariant-loop-i
invariant-loop-i l = Turn l.seed l.n l.initial.out l.t l.digits l.out l.i
