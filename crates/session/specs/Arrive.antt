-- An arrival leaves a sound session sound (docs/SPECIFICATION.md §5.3), also one that no list of calls leads to. Assumes nothing.
use Rattle.std.specs.Prelude.{ℕ, ◌+◌, ◌-◌, ◌≤◌, ◌<◌, ◌≡◌, refl, Bool, true, false, List, leb, ltb, length, set}
use Rattle.std.proofs.Common.{sym, ◌∙◌, arith, get_or-set_same, get_or-set_other, leb-false, ltb-true}
use Rattle.std.proofs.Math.Path.{ap}
use Rattle.std.proofs.Math.Logic.{dite, inl}
use Rattle.std.proofs.Math.Decide.{ℕ_discrete}
use Rattle.bounded.specs.Tests.{both}
use Rattle.bounded.specs.Signed.{difference, difference_sub}
use Rattle.edf.specs.Demand.{interference}
use Rattle.edf.specs.State.{load_besides}
use Rattle.edf.proofs.ArriveLaws.{besides_upto}
use Rattle.table.specs.Rows.{fit_lawful}
use Rattle.table.specs.Budgets.{budget_of, brittle, firm_row, brittle_row}
use Rattle.session.specs.declared.Job.{Job}
use Rattle.session.specs.declared.Session.{Session}
use Rattle.session.specs.Reading.{no_job, job_at, rows_of, tasks, waits, natural, most_budget, state_of}
use Rattle.session.specs.Sound.{sound}
use Rattle.session.specs.Calls.{changed, arrival_budget, new_budget, arrived_job, arrive_in, arrive_of}
use Rattle.session.specs.Facts.{Waiting, Facts, facts_of, sound_of, facts_fit, facts_formed}
use Rattle.session.specs.Brittle.{rows_count, Marks}

-- ---- the budget that a job arrives with

-- a difference, cut at 0
pub natural_difference : (a b c : ℕ) → natural (difference a b c) ≡ a - (b + c)
natural_difference a b c =
    ap natural (difference_sub a b c) ∙ both (ltb a (b + c)) (λ e. simp e (omega (arith, ltb-true a (b + c) e))) (λ e. simp e)

module _ (s : Session) (row : ℕ) where
  -- the work that other rows may have to do by the deadline of a job that arrives now
  abbrev pub asked : ℕ
  asked = load_besides (tasks s) (state_of s) row (s.clock + (tasks s).D row)

  pub new_brittle : brittle (tasks s) row ≡ true → new_budget s row ≡ 0
  unfolding new_budget
  new_brittle e = simp e

  pub new_firm : brittle (tasks s) row ≡ false → new_budget s row ≡ (tasks s).D row - ((tasks s).C row + asked)
  unfolding new_budget arrival_budget
  new_firm e = simp e (natural_difference ((tasks s).D row) ((tasks s).C row) asked)

  -- it is no more than the most budget
  new_most : new_budget s row ≤ most_budget (tasks s) row
  unfolding most_budget
  new_most =
      both (brittle (tasks s) row) (λ e. simp e (omega (arith, new_brittle e))) (λ e. simp e (omega (arith, new_firm e)))

  module _ (f : Facts s) (known : row < (tasks s).rows) (rows : (tasks s).rows ≡ s.count) where
    -- in a sound session the other rows ask for no more than V takes off for them,
    asked_upto : asked ≤ interference (tasks s) row ((tasks s).D row)
    asked_upto =
        let r = (facts_fit s f).row row known in
        besides_upto (tasks s) (fit_lawful (tasks s) (facts_fit s f)) (state_of s) (facts_formed s f rows) row ((tasks s).D row) (omega arith)

    -- so where the row is not brittle, the difference is not cut,
    pub new_whole : brittle (tasks s) row ≡ false → new_budget s row + (tasks s).C row + asked ≡ (tasks s).D row
    new_whole e = omega (arith, new_firm e, asked_upto, firm_row (tasks s) row e)

    -- and it is never below V
    pub new_from : natural (budget_of (tasks s) row) ≤ new_budget s row
    unfolding budget_of
    new_from =
        let v = natural_difference ((tasks s).D row) ((tasks s).C row) (interference (tasks s) row ((tasks s).D row)) in
        both (brittle (tasks s) row) (λ e. omega (arith, v, brittle_row (tasks s) row e)) (λ e. omega (arith, v, new_firm e, asked_upto))

-- ---- the session after it

pub waits_same : (s s' : Session) (i : ℕ) → job_at s' i ≡ job_at s i → waits s' i ≡ waits s i
unfolding waits
waits_same s s' i e = ap (λ (j : Job). ltb 0 j.left) e

-- the session in which row k's job has just arrived
module _ (s : Session) (k : ℕ) where
  abbrev pub with_arrived : Session
  with_arrived = changed s s.clock (set s.jobs k (arrived_job s k)) 0 0

  pub arrived_at : k < length s.jobs → job_at with_arrived k ≡ arrived_job s k
  arrived_at l = get_or-set_same s.jobs k (arrived_job s k) no_job l

  pub arrived_other : (i : ℕ) → ¬ (i ≡ k) → job_at with_arrived i ≡ job_at s i
  arrived_other i ne = get_or-set_other s.jobs k i (arrived_job s k) no_job ne

  module _ (places : s.count ≤ length s.jobs) (rows : (tasks s).rows ≡ s.count) (f : Facts s) (row : k < s.count) where
    is : job_at with_arrived k ≡ arrived_job s k
    is = arrived_at (omega arith)

    waiting_new : Waiting with_arrived k
    unfolding rows_of
    waiting_new =
        let r = (facts_fit s f).row k (omega arith) in
        record {
          some = omega (arith, ap (λ (j : Job). j.left) is, r.cost);
          most = omega (arith, ap (λ (j : Job). j.left) is);
          deadline = omega (arith, ap (λ (j : Job). j.due) is, ap (λ (j : Job). j.next) is);
          not_late = omega (arith, ap (λ (j : Job). j.due) is, r.cost, r.fits);
          budget = omega (arith, ap (λ (j : Job). j.budget) is, new_most s k);
        }

    waiting_old : (i : ℕ) → ¬ (i ≡ k) → i < s.count → waits with_arrived i ≡ true → Waiting with_arrived i
    unfolding rows_of
    waiting_old i ne l w =
        let e = arrived_other i ne in
        let j = f.job i l (sym (waits_same s with_arrived i e) ∙ w) in
        record {
          some = omega (arith, ap (λ (j : Job). j.left) e, j.some);
          most = omega (arith, ap (λ (j : Job). j.left) e, j.most);
          deadline = omega (arith, ap (λ (j : Job). j.due) e, ap (λ (j : Job). j.next) e, j.deadline);
          not_late = omega (arith, ap (λ (j : Job). j.due) e, j.not_late);
          budget = omega (arith, ap (λ (j : Job). j.budget) e, j.budget);
        }

    arrived_facts : Facts with_arrived
    unfolding rows_of
    arrived_facts = record {
      few = f.few;
      admitted = f.admitted;
      kind = f.kind;
      clock = f.clock;
      next = λ i l. dite (ℕ_discrete i k) (λ e. rw e (omega (arith, ap (λ (j : Job). j.next) is)))
          (λ ne. omega (arith, ap (λ (j : Job). j.next) (arrived_other i ne), f.next i l));
      job = λ i l w. dite (ℕ_discrete i k) (λ e. rw e waiting_new) (λ ne. waiting_old i ne l w);
      choice = inl refl;
    }

    pub arrived_sound : sound with_arrived ≡ true
    arrived_sound = sound_of with_arrived arrived_facts

-- what an arrival leaves: the session as it was, or with the job
left_by : (s : Session) (row : ℕ) (P : Session → Type 0) → P s → (sound s ≡ true → row < s.count → P (with_arrived s row)) → P (arrive_of s row).session
unfolding arrive_of arrive_in
left_by s row P same new =
    both (sound s)
    (λ e. both (leb s.count row) (λ a. simp (e, a) same)
    (λ a. both (ltb s.clock (job_at s row).next) (λ b. simp (e, a, b) same) (λ b. simp (e, a, b) (new e (leb-false _ _ a)))))
    (λ e. simp e same)

-- so it is as sound as it was,
pub arrive_sound : (s : Session) (row : ℕ) → length s.jobs ≡ 16 → length s.words ≡ 48 → sound (arrive_of s row).session ≡ sound s
arrive_sound s row jobs words =
    left_by s row (λ z. sound z ≡ sound s) refl
    (λ e known.
    let f = facts_of s e in
    arrived_sound s row (omega (arith, f.few)) (rows_count s f.few words) f known ∙ sym e)

-- and has the same table, with the same rows brittle
pub arrive_rows : (s : Session) (row : ℕ) → rows_of (arrive_of s row).session ≡ rows_of s
unfolding rows_of
arrive_rows s row = left_by s row (λ z. rows_of z ≡ rows_of s) refl (λ e known. refl)

pub arrive_marks : (s : Session) (row : ℕ) (m : List Bool) → Marks s m → Marks (arrive_of s row).session m
unfolding rows_of
arrive_marks s row m h = left_by s row (λ z. Marks z m) h (λ e known. record { at = h.at })
