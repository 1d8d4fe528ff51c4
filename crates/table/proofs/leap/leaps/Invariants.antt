use Rattle.table.specs.Leap.{Further}
use Rattle.table.specs.Rows.{tasks_of}
use Rattle.table.proofs.leap.leaps.Given as goal

abbrev pub invariant-loop : goal.invariant-loop
invariant-loop l = Further (tasks_of l.table.words.now) l.r l.next l.at
