use Rattle.bounded.specs.Least.{Passed}
use Rattle.table.specs.Rows.{tasks_of}
use Rattle.lesson.specs.Put.{over}
use Rattle.lesson.proofs.releases.first_over.Given as goal

abbrev pub invariant-loop-t : goal.invariant-loop-t
invariant-loop-t l = Passed (over (tasks_of l.words)) l.t
