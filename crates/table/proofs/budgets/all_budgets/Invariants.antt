use Rattle.std.proofs.Common.{◌≡◌}
use Rattle.table.specs.Budgets.{budgets_to}
use Rattle.table.specs.Rows.{tasks_of}
use Rattle.table.proofs.budgets.all_budgets.Given as goal

abbrev pub invariant-loop-i : goal.invariant-loop-i
invariant-loop-i l = (l.b ≡ budgets_to (tasks_of l.table.words.now) l.i)
