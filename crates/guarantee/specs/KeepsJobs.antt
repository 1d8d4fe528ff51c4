-- Each row's job after an advance and after a finish (docs/SPECIFICATION.md §5.5, §5.6). Assumes nothing.
use Rattle.std.specs.Prelude.{ℕ, ◌+◌, ◌-◌, ◌≤◌, ◌<◌, min, ◌≡◌, refl, Bool, true, false, cond, eqb, ltb, length, get_or}
use Rattle.std.proofs.Common.{sym, ap, ◌∙◌, true≢false, arith, eqb-true, eq-eqb, ne_eqb}
use Rattle.bounded.specs.Tests.{both}
use Rattle.edf.specs.Demand.{TaskSet}
use Rattle.edf.specs.State.{Same}
use Rattle.session.specs.declared.Job.{Job}
use Rattle.session.specs.declared.Session.{Session}
use Rattle.session.specs.Reading.{no_job, job_at, tasks, waits, ahead, most_budget, state_of}
use Rattle.session.specs.Calls.{jobs_with, over_job_lem, with_budget, aged_job, unused_of, gains, given_job}
use Rattle.session.specs.Jobs.{jobs_at_lem}
use Rattle.guarantee.specs.KeepsStep.{Bounds}

-- ---- a row that is not the chosen one

-- a is j, but perhaps for its budget
pub record Rebudgeted (j a : Job) : Type 0 where
  pub next : a.next ≡ j.next
  pub due : a.due ≡ j.due
  pub left : a.left ≡ j.left

-- and its budget is x where b holds
pub record Budgeted (b : Bool) (x : ℕ) (j a : Job) : Type 0 where
  pub rest : Rebudgeted j a
  pub changes : b ≡ true → a.budget ≡ x
  pub stays : b ≡ false → a.budget ≡ j.budget

budgeted : (b : Bool) (x : ℕ) (j : Job) → Budgeted b x j (cond b (with_budget j x) j)
budgeted true x j =
    record { rest = record { next = refl; due = refl; left = refl }; changes = λ h. refl; stays = λ h. absurd (true≢false h) }
budgeted false x j =
    record { rest = record { next = refl; due = refl; left = refl }; changes = λ h. absurd (true≢false (sym h)); stays = λ h. refl }

-- for the theory it is as it was
pub rest_same : (s s' : Session) (i : ℕ) → Rebudgeted (job_at s i) (job_at s' i) → Same (state_of s) (state_of s') i
unfolding waits
rest_same s s' i r = record { next = r.next; due = r.due; left = r.left; waits = ap (ltb 0) r.left }

-- and it stays within its bounds, where x does
pub rest_bounds : (τ : TaskSet) (s s' : Session) (i : ℕ) {b : Bool} {x : ℕ} → Budgeted b x (job_at s i) (job_at s' i)
    → s.clock ≤ s'.clock → (b ≡ true → waits s i ≡ true → x ≤ most_budget τ i)
    → Bounds τ s i → Bounds τ s' i
rest_bounds τ s s' i {b} p up most f =
    let r = p.rest in
    record {
      next = omega (arith, r.next, f.next);
      budget = λ w.
          let v = sym (rest_same s s' i r).waits ∙ w in
          both b (λ t. omega (arith, p.changes t, most t v)) (λ t. omega (arith, p.stays t, f.budget v));
    }

-- after n ticks, a is row i's job: it has lost n of budget if its deadline is before the chosen one's
abbrev pub Passed : Session → ℕ → ℕ → Job → Type 0
Passed s n i a = Budgeted (ahead s s.chosen i) ((job_at s i).budget - n) (job_at s i) a

job_passed : (s : Session) (n i : ℕ) → ¬ (i ≡ s.chosen) → Passed s n i (aged_job s n i)
unfolding aged_job
job_passed s n i ne = simp (ne_eqb i s.chosen ne) (budgeted (ahead s s.chosen i) _ (job_at s i))

-- after a finish, a is row i's job: it has the unused ticks besides its budget, and no more than D − C, if it gains
abbrev pub Given : Session → ℕ → Job → Type 0
Given s i a = Budgeted (gains s i) (min ((job_at s i).budget + unused_of s) ((tasks s).D i - (tasks s).C i)) (job_at s i) a

job_given : (s : Session) (i : ℕ) → ¬ (i ≡ s.chosen) → Given s i (given_job s i)
unfolding given_job
job_given s i ne = simp (ne_eqb i s.chosen ne) (budgeted (gains s i) _ (job_at s i))

-- ---- the chosen row

-- a is row i's job after n ticks in which it ran
pub record Worked (s : Session) (n i : ℕ) (a : Job) : Type 0 where
  pub next : a.next ≡ (job_at s i).next
  pub left : a.left ≡ (job_at s i).left - n
  pub due : 0 < a.left → a.due ≡ (job_at s i).due
  pub budget : 0 < a.left → a.budget ≡ (job_at s i).budget

job_worked : (s : Session) (n i : ℕ) → i ≡ s.chosen → Worked s n i (aged_job s n i)
unfolding aged_job
job_worked s n i e =
    both (eqb (job_at s i).left n)
    (λ f. simp (eq-eqb i s.chosen e, f)
    (record {
      next = refl;
      left = omega (arith, eqb-true (job_at s i).left n f);
      due = λ h. absurd (omega arith);
      budget = λ h. absurd (omega arith);
    }))
    (λ f. simp (eq-eqb i s.chosen e, f) (record { next = refl; left = refl; due = λ h. refl; budget = λ h. refl }))

-- ---- in the list of jobs

-- the job of row i once each row's is as f says
abbrev pub job_after : Session → (ℕ → Job) → ℕ → Job
job_after s f i = get_or (jobs_with s f s.count) i no_job

module _ (s : Session) (places : s.count ≤ length s.jobs) where
  pub aged_passed : (n i : ℕ) → i < s.count → ¬ (i ≡ s.chosen) → Passed s n i (job_after s (aged_job s n) i)
  aged_passed n i l ne = rw (jobs_at_lem s (aged_job s n) places i l) (job_passed s n i ne)

  pub aged_worked : (n i : ℕ) → i < s.count → i ≡ s.chosen → Worked s n i (job_after s (aged_job s n) i)
  aged_worked n i l e = rw (jobs_at_lem s (aged_job s n) places i l) (job_worked s n i e)

  pub given_other : (i : ℕ) → i < s.count → ¬ (i ≡ s.chosen) → Given s i (job_after s (given_job s) i)
  given_other i l ne = rw (jobs_at_lem s (given_job s) places i l) (job_given s i ne)

  pub given_over : s.chosen < s.count → job_after s (given_job s) s.chosen ≡ over_job_lem (job_at s s.chosen)
  unfolding given_job
  given_over l = jobs_at_lem s (given_job s) places s.chosen l ∙ simp (eq-eqb s.chosen s.chosen refl)
