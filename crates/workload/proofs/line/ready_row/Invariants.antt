use Rattle.bounded.specs.Least.{Passed}
use Rattle.workload.specs.Line.{may_arrive}
use Rattle.workload.proofs.line.ready_row.Given as goal

abbrev pub invariant-loop-i : goal.invariant-loop-i
invariant-loop-i l = Passed (may_arrive l.s) l.i
