use Rattle.std.proofs.Common.{◌*◌, ◌≡◌, ◌≤◌}
use Rattle.bounded.specs.Sum.{sum_to}
use Rattle.bounded.specs.Besides.{besides}
use Rattle.edf.specs.Demand.{row_request_lem}
use Rattle.table.specs.Rows.{tasks_of}
use Rattle.table.proofs.budgets.interfering.Given as goal

abbrev pub invariant-loop-j : goal.invariant-loop-j
invariant-loop-j l = (l.sum ≡ sum_to (besides (row_request_lem (tasks_of l.table.words.now) l.x) l.i) l.j) × (l.sum ≤ 1000000000000 * l.j)
