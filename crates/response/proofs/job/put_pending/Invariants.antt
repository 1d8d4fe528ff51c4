use Rattle.decimal.specs.Joined.{Joined}
use Rattle.table.specs.Rows.{tasks_of}
use Rattle.response.specs.Put.{pending_text}
use Rattle.response.proofs.job.put_pending.Given as goal

abbrev pub invariant-loop-i : goal.invariant-loop-i
invariant-loop-i l = Joined (pending_text (tasks_of l.analysis.words.now) l.s l.counts) 128 l.rows l.initial.out l.initial.e l.i l.out l.e
