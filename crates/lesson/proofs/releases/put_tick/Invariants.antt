use Rattle.decimal.specs.Joined.{Joined}
use Rattle.table.specs.Rows.{tasks_of}
use Rattle.lesson.specs.Lesson.{release_text}
use Rattle.lesson.proofs.releases.put_tick.Given as goal

abbrev pub invariant-loop-i : goal.invariant-loop-i
invariant-loop-i l = Joined (release_text (tasks_of l.words) l.t l.c) 86 l.rows l.initial.out l.at l.i l.out l.e
