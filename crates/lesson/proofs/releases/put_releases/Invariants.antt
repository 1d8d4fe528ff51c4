use Rattle.decimal.specs.Joined.{Joined}
use Rattle.table.specs.Rows.{tasks_of}
use Rattle.lesson.specs.Lesson.{tick_text}
use Rattle.lesson.proofs.releases.put_releases.Given as goal

abbrev pub invariant-loop-c : goal.invariant-loop-c
invariant-loop-c l = Joined (tick_text (tasks_of l.words) l.t) 258 l.t l.initial.out l.at l.c l.out l.e
