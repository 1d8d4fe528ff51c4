use Rattle.std.proofs.Common.{◌*◌, ◌≡◌, ◌≤◌}
use Rattle.bounded.specs.Sum.{sum_to}
use Rattle.table.specs.Rows.{tasks_of}
use Rattle.calls.specs.Code.{asked_of, Asking}
use Rattle.calls.proofs.arrive.arrive_by.Given as goal

abbrev pub invariant-loop-j : goal.invariant-loop-j
invariant-loop-j g l =
    Asking l.q l.i l.rows l.brittle l.k l.clock l.n × (l.asked ≡ sum_to (asked_of l.q l.i) l.j) × (l.asked ≤ 1000001000000 * l.j) × g.P.Prepares.serves l.by (tasks_of l.rows)
