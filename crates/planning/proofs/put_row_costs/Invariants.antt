use Rattle.decimal.specs.Joined.{Joined}
use Rattle.table.specs.Rows.{tasks_of}
use Rattle.planning.specs.Planning.{cost_text}
use Rattle.planning.proofs.put_row_costs.Given as goal

abbrev pub invariant-loop-j : goal.invariant-loop-j
invariant-loop-j l = Joined (cost_text (tasks_of l.words) l.i) 107 l.rows l.initial.out l.at l.j l.out l.e
