-- An advance keeps a session good (docs/SPECIFICATION.md §5.5). Assumes nothing.
use Rattle.std.specs.Prelude.{ℕ, ◌+◌, ◌-◌, ◌≤◌, ◌<◌, ◌≡◌, true, cond, ◌⊎◌, ltb, eqb}
use Rattle.std.proofs.Math.Path.{refl, ap}
use Rattle.std.proofs.Common.{sym, ◌∙◌, inl, inr, ⊎_elim, arith}
use Rattle.std.proofs.Math.Logic.{dite}
use Rattle.std.proofs.Math.Decide.{ℕ_discrete}
use borrow.Author.Tests.{eqb-true, eqb-false, ltb-true, lt-ltb}
use Rattle.bounded.specs.Tests.{both}
use Rattle.edf.specs.State.{Same, soonest}
use Rattle.edf.specs.Steps.{Run, Idle}
use Rattle.edf.specs.Safe.{Safe, Step, may_run_still, may_idle_still}
use Rattle.table.specs.Budgets.{brittle}
use Rattle.session.specs.declared.Session.{Session}
use Rattle.session.specs.Reading.{idle, clock_end, job_at, rows_of, tasks, waits, ahead, state_of}
use Rattle.session.specs.Calls.{changed, jobs_with, aged_job}
use Rattle.session.specs.Jobs.{jobs_length}
use Rattle.session.specs.Facts.{Running, Choice}
use Rattle.guarantee.specs.Good.{Apt, Good, good_places, in_session}
use Rattle.guarantee.specs.KeepsChoice.{ahead_waits, ahead_earlier, earlier_ahead, idle_ahead, later_not}
use Rattle.guarantee.specs.KeepsJobs.{Passed, Worked, rest_same, rest_bounds, aged_passed, aged_worked}
use Rattle.guarantee.specs.KeepsStep.{Bounds, good_facts, good_step, good_bounds, good_changed}

-- ---- n ticks of a choice in force

module _ (s : Session) (g : Good (rows_of s) s) (ch : Choice s) (n : ℕ) (within : n ≤ s.span) (c : ℕ) where
  abbrev after : Session
  after = changed s (s.clock + n) (jobs_with s (aged_job s n) s.count) c (s.span - n)

  passed : (i : ℕ) → i < s.count → ¬ (i ≡ s.chosen) → Passed s n i (job_at after i)
  passed = aged_passed s (good_places g) n

  worked : (i : ℕ) → i < s.count → i ≡ s.chosen → Worked s n i (job_at after i)
  worked = aged_worked s (good_places g) n

  same : (i : ℕ) → i < s.count → ¬ (i ≡ s.chosen) → Same (state_of s) (state_of after) i
  same i l ne = rest_same s after i (passed i l ne).rest

  -- each job that loses budget has enough of it
  pays : (i : ℕ) → i < s.count → ¬ (i ≡ s.chosen) → ahead s s.chosen i ≡ true → (job_at after i).budget + n ≡ (job_at s i).budget
  pays i l ne a = omega (arith, (passed i l ne).changes a, ch.affords i l a)

  apt : Apt (tasks s) (state_of s) s.chosen
  apt = g.apt ch.some

  -- ---- a row runs

  module _ (r : Running s) where
    pub run_step : Run (tasks s) s.chosen n (state_of s) (state_of after)
    unfolding waits
    run_step = let w = worked s.chosen r.known refl in record {
      row = omega (arith, r.known, g.count);
      waiting = r.waiting;
      within = omega (arith, r.within);
      clock = refl;
      next = w.next;
      due = λ h. w.due (ltb-true 0 _ h);
      left = w.left;
      budget = λ h. w.budget (ltb-true 0 _ h);
      waits = ap (ltb 0) w.left;
      others = λ i l. same i (in_session g i l);
      earlier = λ i l ne v h. pays i (in_session g i l) ne (earlier_ahead s s.chosen i v h);
      later = λ i l ne v h. (passed i (in_session g i l) ne).stays
          (later_not s s.chosen i (λ e. omega (arith, r.known, (good_facts s g).few)) h);
    }

    run_safe : Safe (tasks s) (brittle (tasks s)) (state_of after)
    run_safe = good_step s g (state_of after) (Step.ran s.chosen n run_step (apt.row (λ e. omega (arith, r.known, (good_facts s g).few))))

  -- ---- nothing runs

  module _ (none : s.chosen ≡ idle) where
    other : (i : ℕ) → i < s.count → ¬ (i ≡ s.chosen)
    other i l e = omega (arith, (good_facts s g).few)

    pub idle_step : Idle (tasks s) n (state_of s) (state_of after)
    idle_step = record {
      clock = refl;
      others = λ i l. same i (in_session g i l) (other i (in_session g i l));
      budgets = λ i l w. pays i (in_session g i l) (other i (in_session g i l)) (idle_ahead s s.chosen i none w);
    }

    idle_safe : Safe (tasks s) (brittle (tasks s)) (state_of after)
    idle_safe = good_step s g (state_of after) (Step.idled n idle_step (apt.rest none))

  -- ---- soundness

  -- no earliest next arrival changes, no job begins to wait, and no waiting job gains budget
  bounds : (i : ℕ) → i < s.count → Bounds (tasks s) after i
  unfolding waits
  bounds i l =
      let f = good_bounds s g i l in
      dite (ℕ_discrete i s.chosen)
      (λ e.
      let w = worked i l e in
      record {
        next = omega (arith, w.next, f.next);
        budget = λ h.
            let k = ltb-true 0 (job_at after i).left h in
            omega (arith, w.budget k, f.budget (lt-ltb 0 (job_at s i).left (omega (arith, w.left))));
      })
      (λ ne. rest_bounds (tasks s) s after i (passed i l ne) (omega arith) (λ a w. omega (arith, f.budget w)) f)

  -- ---- what may run still may: no job begins to wait, and no row's next job can come sooner

  waited : (i : ℕ) → i < (tasks s).rows → waits after i ≡ true → (waits s i ≡ true) × ((job_at after i).due ≡ (job_at s i).due)
  unfolding waits
  waited i l w =
      let u = in_session g i l in
      let k = ltb-true 0 (job_at after i).left w in
      dite (ℕ_discrete i s.chosen)
      (λ e. let x = worked i u e in (lt-ltb 0 (job_at s i).left (omega (arith, x.left)), x.due k))
      (λ ne. let x = same i u ne in (sym x.waits ∙ w, x.due))

  later_soonest : (i : ℕ) → i < (tasks s).rows → soonest (state_of s) i ≤ soonest (state_of after) i
  later_soonest i l =
      let u = in_session g i l in
      dite (ℕ_discrete i s.chosen) (λ e. omega (arith, (worked i u e).next)) (λ ne. omega (arith, (same i u ne).next))

  apt_still : (Running s → waits after s.chosen ≡ true) → Apt (tasks s) (state_of after) s.chosen
  apt_still on = record {
    row = λ ne. ⊎_elim (λ z. absurd (ne z))
        (λ (r : Running s).
        may_run_still (tasks s) (brittle (tasks s)) (state_of s) (state_of after) later_soonest waited s.chosen
        (omega (arith, r.known, g.count)) (on r) (apt.row ne))
        ch.runs;
    rest = λ z. may_idle_still (tasks s) (brittle (tasks s)) (state_of s) (state_of after) later_soonest waited (apt.rest z);
  }

  advance_good : s.clock + n ≤ clock_end → (1 ≤ s.span - n → Apt (tasks s) (state_of after) c) → (s.span - n ≡ 0) ⊎ Choice after → Good (rows_of s) after
  advance_good end apt choice =
      good_changed s g (s.clock + n) (jobs_with s (aged_job s n) s.count) c (s.span - n)
      (jobs_length s (aged_job s n) s.count ∙ g.places) end (⊎_elim idle_safe run_safe ch.runs) apt bounds choice

-- ---- the choice, where its span is not used up

module _ (s : Session) (g : Good (rows_of s) s) (ch : Choice s) (n : ℕ) (more : n < s.span) where
  abbrev later : Session
  later = after s g ch n (omega arith) s.chosen

  ran : (r : Running s) → Worked s n s.chosen (job_at later s.chosen)
  ran r = worked s g ch n (omega arith) s.chosen s.chosen r.known refl

  rest : (i : ℕ) → i < s.count → ¬ (i ≡ s.chosen) → Same (state_of s) (state_of later) i
  rest = same s g ch n (omega arith) s.chosen

  waits_still : Running s → waits later s.chosen ≡ true
  unfolding waits
  waits_still r = lt-ltb 0 (job_at later s.chosen).left (omega (arith, (ran r).left, r.within))

  runs_still : (s.chosen ≡ idle) ⊎ Running s → (s.chosen ≡ idle) ⊎ Running later
  runs_still (inl e) = inl e
  runs_still (inr r) = inr (record { known = r.known; waiting = waits_still r; within = omega (arith, (ran r).left, r.within) })

  -- a job that loses budget from now on is not the chosen one, and has lost budget so far
  ahead_still : (s.chosen ≡ idle) ⊎ Running s → (j : ℕ) → j < s.count → ahead later s.chosen j ≡ true
      → (¬ (j ≡ s.chosen)) × (ahead s s.chosen j ≡ true)
  ahead_still (inl e) j l a =
      let ne : ¬ (j ≡ s.chosen) = λ x. omega (arith, (good_facts s g).few) in
      (ne, idle_ahead s s.chosen j e (sym (rest j l ne).waits ∙ ahead_waits later s.chosen j a))
  ahead_still (inr r) j l a =
      let d = ahead_earlier later s.chosen j (λ e. omega (arith, r.known, (good_facts s g).few)) a in
      let ne : ¬ (j ≡ s.chosen) = λ x. omega (arith, ap (λ (z : ℕ). (job_at later z).due) x) in
      let e = rest j l ne in
      let w = ran r in
      let f = w.due (omega (arith, w.left, r.within)) in
      (ne, earlier_ahead s s.chosen j (sym e.waits ∙ ahead_waits later s.chosen j a) (omega (arith, e.due)))

  choice_still : Choice later
  choice_still = record {
    some = omega arith;
    small = omega (arith, ch.small);
    runs = runs_still ch.runs;
    affords = λ j l a.
        let b = ahead_still ch.runs j l a in
        omega (arith, pays s g ch n (omega arith) s.chosen j l b.0 b.1, ch.affords j l b.1);
  }

pub good_advance : (s : Session) → Good (rows_of s) s → Choice s → (n : ℕ) → n ≤ s.span → s.clock + n ≤ clock_end
    → Good (rows_of s) (changed s (s.clock + n) (jobs_with s (aged_job s n) s.count) (cond (eqb s.span n) 0 s.chosen) (s.span - n))
good_advance s g ch n high end =
    both (eqb s.span n)
    (λ e. let u = eqb-true s.span n e in simp e (advance_good s g ch n high 0 end (λ l. absurd (omega arith)) (inl (omega arith))))
    (λ e.
    let u = eqb-false s.span n e in
    let more : n < s.span = omega arith in
    simp e
    (advance_good s g ch n high s.chosen end (λ l. apt_still s g ch n high s.chosen (waits_still s g ch n more))
    (inr (choice_still s g ch n more))))
