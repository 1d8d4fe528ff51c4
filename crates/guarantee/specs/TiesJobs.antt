-- The time that the jobs of a good session have, and which of them n ticks run (docs/SPECIFICATION.md §5.5). Assumes nothing.
use Rattle.std.specs.Prelude.{ℕ, ◌+◌, ◌≤◌, ◌<◌, ◌≡◌, refl, List}
use Rattle.std.proofs.Math.Logic.{dite}
use Rattle.std.proofs.Common.{le_refl}
use native.Mathlib.Omega.{arith}
use Rattle.std.proofs.Math.Decide.{dec_lt}
use borrow.Author.Tests.{lt-ltb}
use Rattle.edf.specs.State.{load_has}
use Rattle.table.specs.Rows.{tasks_of, fit_lawful}
use Rattle.session.specs.declared.Job.{Job}
use Rattle.session.specs.declared.Session.{Session}
use Rattle.session.specs.Reading.{job_at, waits, state_of}
use Rattle.session.specs.Facts.{Running}
use Rattle.session.specs.Calls.{aged_job}
use Rattle.session.specs.Jobs.{jobs_past}
use Rattle.guarantee.specs.Good.{Good, good_places, in_table}
use Rattle.guarantee.specs.KeepsJobs.{Rebudgeted, job_after, aged_worked}
use Rattle.guarantee.specs.TiesRow.{Ran}

module _ {l : List ℕ} {s : Session} (good : Good l s) where
  -- by a waiting job's deadline there is time for what it has left
  pub time_left : (i : ℕ) → i < s.count → 1 ≤ (job_at s i).left → s.clock + (job_at s i).left ≤ (job_at s i).due
  unfolding waits
  time_left i h some =
      let w = lt-ltb 0 (job_at s i).left some in
      omega (
        arith,
        good.safe.slack.slack i (in_table good i h) w,
        load_has (tasks_of l) (fit_lawful (tasks_of l) good.fit) (state_of s) (job_at s i).due i (in_table good i h) w (le_refl (job_at s i).due),
      )

  -- where a row's next job may arrive, none of the row waits: its deadline would not be ahead, since D ≤ T
  pub row_free : (i : ℕ) → i < s.count → (job_at s i).next ≤ s.clock → (job_at s i).left ≡ 0
  unfolding waits
  row_free i h e =
      dite (dec_lt 0 (job_at s i).left)
      (λ some. absurd (omega (
        arith,
        good.safe.formed i (in_table good i h) (lt-ltb 0 (job_at s i).left some),
        good.fit.row i (in_table good i h),
      )))
      (λ none. omega arith)

  -- the job of the chosen row has some ticks left, and there is time for them
  pub running_time : 1 ≤ s.span → Running s
      → (1 ≤ (job_at s s.chosen).left) × (s.clock + (job_at s s.chosen).left ≤ (job_at s s.chosen).due)
  running_time force r = (omega (arith, r.within), time_left s.chosen r.known (omega (arith, r.within)))

  -- after n ticks the chosen job has run for n,
  pub ran_chosen : (n : ℕ) → s.chosen < s.count → Ran n (job_at s s.chosen) (job_after s (aged_job s n) s.chosen)
  ran_chosen n h = let w = aged_worked s (good_places good) n s.chosen h refl in record { left = w.left; due = w.due }

  -- and a job that at most has another budget has not run
  pub ran_none : (f : ℕ → Job) (i : ℕ) → (i < s.count → Rebudgeted (job_at s i) (job_after s f i)) → Ran 0 (job_at s i) (job_after s f i)
  ran_none f i rest =
      dite (dec_lt i s.count)
      (λ h. let r = rest h in record { left = omega (arith, r.left); due = λ some. r.due })
      (λ h. rw (jobs_past s f s.count i (omega arith)) (record { left = omega arith; due = λ some. refl }))
