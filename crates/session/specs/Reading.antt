-- What a session's record says (docs/SPECIFICATION.md §5.1). Assumes nothing.
use Rattle.std.specs.Prelude.{ℕ, ◌-◌, ◌*◌, Bool, ◌&&◌, ◌||◌, cond, List, ltb, eqb, ℤ, pos, negsuc, get_or, take}
use Rattle.edf.specs.Demand.{TaskSet}
use Rattle.edf.specs.State.{State}
use Rattle.table.specs.Rows.{tasks_of}
use Rattle.table.specs.Budgets.{brittle}
use Rattle.session.specs.declared.Job.{Job}
use Rattle.session.specs.declared.Session.{Session}

-- idle, as it is shown in answers
abbrev pub idle : ℕ
idle = 16

-- the last tick that a clock may show, 2 ^ 53
abbrev pub clock_end : ℕ
clock_end = 9007199254740992

-- later than every deadline of a sound session
abbrev pub far : ℕ
far = 72057594037927935

abbrev pub no_job : Job
no_job = record { next = 0; due = 0; left = 0; budget = 0 }

abbrev pub job_at : Session → ℕ → Job
job_at s i = get_or s.jobs i no_job

-- the table's rows
unfoldable pub rows_of : Session → List ℕ
rows_of s = take (3 * s.count) s.words

abbrev pub tasks : Session → TaskSet
tasks s = tasks_of (rows_of s)

-- "waiting" means arrived and not over, running or not
unfoldable pub waits : Session → ℕ → Bool
waits s i = ltb 0 (job_at s i).left

-- the waiting jobs that lose budget while c runs: those of strictly earlier deadline, and all of them under idle
unfoldable pub ahead : Session → ℕ → ℕ → Bool
ahead s c j = waits s j && (eqb c idle || ltb (job_at s j).due (job_at s c).due)

-- a number that is not negative
abbrev pub natural : ℤ → ℕ
natural (pos n) = n
natural (negsuc n) = 0

-- the most budget that a waiting job may have: D − C, and 0 where the row is brittle
unfoldable pub most_budget : TaskSet → ℕ → ℕ
most_budget τ i = cond (brittle τ i) 0 (τ.D i - τ.C i)

-- the session as the theory sees it
abbrev pub state_of : Session → State
state_of s = record {
  clock = s.clock;
  next = λ i. (job_at s i).next;
  due = λ i. (job_at s i).due;
  left = λ i. (job_at s i).left;
  budget = λ i. (job_at s i).budget;
  waits = waits s;
}
