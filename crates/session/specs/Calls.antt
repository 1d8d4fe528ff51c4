-- The four calls (docs/SPECIFICATION.md §5.3 to §5.7). Assumes nothing.
use Rattle.std.specs.Prelude.{ℕ, ◌+◌, ◌-◌, min, ◌≡◌, Bool, not, ◌&&◌, ◌||◌, cond, List, leb, ltb, eqb, ℤ, pos, ◌-ℤ◌, set}
use Rattle.bounded.specs.Fold.{fold_to}
use Rattle.edf.specs.Demand.{TaskSet}
use Rattle.edf.specs.State.{load_besides}
use Rattle.table.specs.Budgets.{brittle}
use Rattle.session.specs.declared.Job.{Job}
use Rattle.session.specs.declared.Session.{Session}
use Rattle.session.specs.declared.Numbers.{Numbers}
use Rattle.session.specs.declared.Answer.{Answer}
use Rattle.session.specs.declared.Answer.TheVariants.{Arrived, Chosen, Advanced, Finished, Unsound, NoRow, TooEarly, InForce, NoChoice, BadStep, Idling, ClockEnd}
use Rattle.session.specs.declared.Outcome.{Outcome}
use Rattle.session.specs.Reading.{idle, clock_end, job_at, tasks, waits, ahead, natural, state_of}
use Rattle.session.specs.Sound.{sound}
use Rattle.session.specs.Choose.{pick_of, pick_used, span_of, used_of}

-- an answer's number, 0 where the call is accepted, and its two values
pub record Shown : Type 0 where
  pub number : ℕ
  pub first : ℕ
  pub second : ℕ

abbrev pub three : ℕ → ℕ → ℕ → Shown
three n a b = record { number = n; first = a; second = b }

abbrev pub shown : Answer → Shown
shown (Arrived row due) = three 0 row due
shown (Chosen row span) = three 0 row span
shown (Advanced left over) = three 0 left over
shown (Finished row unused) = three 0 row unused
shown Unsound = three 5 0 0
shown (NoRow row) = three 6 row 0
shown (TooEarly row next) = three 7 row next
shown (InForce left) = three 8 left 0
shown NoChoice = three 9 0 0
shown (BadStep left) = three 10 left 0
shown Idling = three 11 0 0
shown ClockEnd = three 12 clock_end 0

-- n has these numbers
pub record Shows (a : Shown) (n : Numbers) : Type 0 where
  pub number : n.number ≡ a.number
  pub first : n.first ≡ a.first
  pub second : n.second ≡ a.second

-- a refused call leaves the same session and uses no word
abbrev pub refused : Session → Answer → Outcome
refused s a = record { answer = a; used = 0; session = s }

abbrev pub accepted : Session → Answer → Outcome
accepted s a = record { answer = a; used = 0; session = s }

-- a session with other jobs and another clock, and a choice: c with n ticks left, none where n is 0
abbrev pub changed : Session → ℕ → List Job → ℕ → ℕ → Session
changed s clock jobs c n = record {
  clock = clock;
  kind = s.kind;
  count = s.count;
  words = s.words;
  jobs = jobs;
  chosen = c;
  span = n;
}

-- a session's jobs, of which those of the rows below k are as f says
unfoldable pub jobs_with : Session → (ℕ → Job) → ℕ → List Job
jobs_with s f k = fold_to (λ l i. set l i (f i)) s.jobs k

-- a job that is over leaves the row's earliest next arrival
abbrev pub over_job_lem : Job → Job
over_job_lem j = record { next = j.next; due = 0; left = 0; budget = 0 }

abbrev pub with_budget : Job → ℕ → Job
with_budget j b = record { next = j.next; due = j.due; left = j.left; budget = b }

-- ---- arrive

-- what a job of the row, arriving now, can spare, over the integers: D − C, less, of every other row, the remaining ticks of its
-- waiting job, if that is due no later than the new one (`pending`), and its C for each deadline no later than the new one that
-- its jobs still to come could have, the first of them arriving at the later of clock and earliest next arrival, the others T
-- apart (`to_come`)
unfoldable pub arrival_budget : Session → ℕ → ℤ
arrival_budget s row =
    pos ((tasks s).D row) -ℤ pos ((tasks s).C row)
    -ℤ pos (load_besides (tasks s) (state_of s) row (s.clock + (tasks s).D row))

-- a new job's budget: that, and 0 where the row is brittle. In a sound session the difference is never negative where the row is
-- not brittle (`BudgetWhole` in crates/guarantee/specs/Statement.antt).
unfoldable pub new_budget : Session → ℕ → ℕ
new_budget s row = cond (brittle (tasks s) row) 0 (natural (arrival_budget s row))

-- earliest next arrival clock + T; the job waits with deadline clock + D, remaining C, and the budget b
abbrev pub arrived_by : TaskSet → ℕ → ℕ → ℕ → Job
arrived_by τ row clock b = record { next = clock + τ.T row; due = clock + τ.D row; left = τ.C row; budget = b }

abbrev pub arrived_job : Session → ℕ → Job
arrived_job s row = arrived_by (tasks s) row s.clock (new_budget s row)

-- the job waits, and a choice in force is dropped
abbrev pub arrived_of : Session → ℕ → Outcome
arrived_of s row =
    accepted (changed s s.clock (set s.jobs row (arrived_job s row)) 0 0) (Arrived row (s.clock + (tasks s).D row))

unfoldable pub arrive_in : Session → ℕ → Outcome
arrive_in s row =
    cond (leb s.count row) (refused s (NoRow row))
    (cond (ltb s.clock (job_at s row).next) (refused s (TooEarly row (job_at s row).next))
    (arrived_of s row))

-- ---- choose

unfoldable pub choose_in : Session → List ℕ → Outcome
choose_in s l =
    cond (ltb 0 s.span) (refused s (InForce s.span))
    record {
      answer = Chosen (pick_of s l) (span_of s l (pick_used s l) (pick_of s l));
      used = used_of s l;
      session = changed s s.clock s.jobs (pick_of s l) (span_of s l (pick_used s l) (pick_of s l));
    }

-- ---- advance

-- row i after n ticks of the choice in force: the chosen job's remaining falls by n, and at 0 it is over; each waiting
-- job of strictly earlier deadline (all, under idle) loses n of budget
unfoldable pub aged_job : Session → ℕ → ℕ → Job
aged_job s n i =
    cond (eqb i s.chosen)
    (cond (eqb (job_at s i).left n) (over_job_lem (job_at s i))
    record { next = (job_at s i).next; due = (job_at s i).due; left = (job_at s i).left - n; budget = (job_at s i).budget })
    (cond (ahead s s.chosen i) (with_budget (job_at s i) ((job_at s i).budget - n)) (job_at s i))

-- 1 if c is a row and its job, with so many ticks remaining, is over after n of them
unfoldable pub over_by : ℕ → ℕ → ℕ → ℕ
over_by c left n = cond (eqb c idle) 0 (cond (eqb left n) 1 0)

-- 1 if the chosen job is over after n ticks
unfoldable pub over_after : Session → ℕ → ℕ
over_after s n = over_by s.chosen (job_at s s.chosen).left n

-- n ticks of the choice in force; a used-up span ends it
abbrev pub stepped_of : Session → ℕ → Outcome
stepped_of s n =
    accepted
    (changed s (s.clock + n) (jobs_with s (aged_job s n) s.count) (cond (eqb s.span n) 0 s.chosen) (s.span - n))
    (Advanced (s.span - n) (over_after s n))

unfoldable pub advance_in : Session → ℕ → Outcome
advance_in s n =
    cond (eqb s.span 0) (refused s NoChoice)
    (cond (eqb n 0 || ltb s.span n) (refused s (BadStep s.span))
    (cond (ltb clock_end (s.clock + n)) (refused s ClockEnd) (stepped_of s n)))

-- ---- finish (unused time reclamation)

-- the ticks that the chosen job leaves unused
abbrev pub unused_of : Session → ℕ
unused_of s = (job_at s s.chosen).left

-- the jobs that gain these ticks: each waiting job of strictly later deadline than the chosen one, whose row is not brittle
unfoldable pub gains : Session → ℕ → Bool
gains s i = not (brittle (tasks s) i) && (waits s i && ltb (job_at s s.chosen).due (job_at s i).due)

-- row i after the chosen job is over: a job that gains has the unused ticks as budget besides its own, never above its D − C
unfoldable pub given_job : Session → ℕ → Job
given_job s i =
    cond (eqb i s.chosen) (over_job_lem (job_at s i))
    (cond (gains s i) (with_budget (job_at s i) (min ((job_at s i).budget + unused_of s) ((tasks s).D i - (tasks s).C i))) (job_at s i))

-- the chosen job is over early and the choice ends; the unused ticks are reported
abbrev pub finished_of : Session → Outcome
finished_of s = accepted (changed s s.clock (jobs_with s (given_job s) s.count) 0 0) (Finished s.chosen (unused_of s))

unfoldable pub finish_in : Session → Outcome
finish_in s = cond (eqb s.span 0) (refused s NoChoice) (cond (eqb s.chosen idle) (refused s Idling) (finished_of s))

-- ---- any session: one that is not sound is refused before all else

abbrev pub guarded : Session → Outcome → Outcome
guarded s o = cond (sound s) o (refused s Unsound)

unfoldable pub arrive_of : Session → ℕ → Outcome
arrive_of s row = guarded s (arrive_in s row)

unfoldable pub choose_of : Session → List ℕ → Outcome
choose_of s l = guarded s (choose_in s l)

unfoldable pub advance_of : Session → ℕ → Outcome
advance_of s n = guarded s (advance_in s n)

unfoldable pub finish_of : Session → Outcome
finish_of s = guarded s (finish_in s)
