use Rattle.table.specs.Drop.{Lower}
use Rattle.table.specs.Rows.{tasks_of}
use Rattle.table.proofs.drop.drops.Given as goal

abbrev pub invariant-loop : goal.invariant-loop
invariant-loop l = Lower (tasks_of l.table.words.now) l.t l.h l.at
