use Rattle.std.proofs.Common.{◌*◌, ◌≡◌, ◌≤◌}
use Rattle.bounded.specs.Sum.{sum_to}
use Rattle.edf.specs.Demand.{row_request_lem}
use Rattle.table.specs.Rows.{tasks_of}
use Rattle.table.proofs.request.requested.Given as goal

abbrev pub invariant-loop-i : goal.invariant-loop-i
invariant-loop-i l = (l.sum ≡ sum_to (row_request_lem (tasks_of l.table.words.now) l.x) l.i) × (l.sum ≤ 1000000000000 * l.i)
