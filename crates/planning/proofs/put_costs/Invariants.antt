use Rattle.decimal.specs.Joined.{Joined}
use Rattle.table.specs.Rows.{tasks_of}
use Rattle.planning.specs.Planning.{costs_of_row}
use Rattle.planning.proofs.put_costs.Given as goal

abbrev pub invariant-loop-i : goal.invariant-loop-i
invariant-loop-i l = Joined (costs_of_row (tasks_of l.words)) 1712 l.rows l.initial.out l.at l.i l.out l.e
