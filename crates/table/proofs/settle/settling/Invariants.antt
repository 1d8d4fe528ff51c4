use Rattle.table.specs.Rows.{tasks_of}
use Rattle.table.specs.Settle.{NonePast}
use Rattle.table.proofs.settle.settling.Given as goal

abbrev pub invariant-loop-end : goal.invariant-loop-end
invariant-loop-end l = NonePast (tasks_of l.table.words.now) l.end

abbrev pub decreases-loop-end : goal.decreases-loop-end
decreases-loop-end l = l.end
