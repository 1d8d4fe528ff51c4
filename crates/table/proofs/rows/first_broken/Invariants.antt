use Rattle.bounded.specs.Least.{Passed}
use Rattle.table.specs.Rows.{tasks_of, broken}
use Rattle.table.proofs.rows.first_broken.Given as goal

abbrev pub invariant-loop-i : goal.invariant-loop-i
invariant-loop-i l = Passed (broken (tasks_of l.words)) l.i
