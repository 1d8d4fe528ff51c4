use Rattle.std.proofs.Common.{◌-◌}
use Rattle.table.specs.Rows.{tasks_of}
use Rattle.table.specs.First.{Narrow}
use Rattle.table.proofs.first.first.Given as goal

abbrev pub invariant-loop-r : goal.invariant-loop-r
invariant-loop-r l = Narrow (tasks_of l.table.words.now) (record { found = l.initial.r.found; sums = l.initial.r.sums }) l.r

abbrev pub decreases-loop-r : goal.decreases-loop-r
decreases-loop-r l = l.r.found.at - l.r.floor
