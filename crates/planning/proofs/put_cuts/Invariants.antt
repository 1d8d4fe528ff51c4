use Rattle.decimal.specs.Joined.{Joined}
use Rattle.table.specs.Rows.{tasks_of}
use Rattle.planning.specs.Planning.{cut_text}
use Rattle.planning.proofs.put_cuts.Given as goal

abbrev pub invariant-loop-i : goal.invariant-loop-i
invariant-loop-i l = Joined (cut_text (tasks_of l.words) l.t) 86 l.rows l.initial.out l.at l.i l.out l.e
