-- A finish keeps a session good, and the cap on what it gives never cuts anything (docs/SPECIFICATION.md §5.6). Assumes nothing.
use Rattle.std.specs.Prelude.{ℕ, ◌+◌, ◌-◌, ◌≤◌, ◌<◌, ◌≡◌, refl, true, false, not}
use Rattle.std.proofs.Math.Path.{ap}
use Rattle.std.proofs.Common.{◌∙◌, inl, arith}
use Rattle.std.proofs.Math.Logic.{dite}
use Rattle.std.proofs.Math.Decide.{ℕ_discrete}
use Rattle.std.proofs.Math.Dec.{ltb}
use borrow.Author.Tests.{ltb-true, not-true}
use Rattle.bounded.specs.Tests.{both, and-true}
use Rattle.edf.specs.Steps.{Over, Finish}
use Rattle.edf.proofs.FinishLaws.{finish_cap}
use Rattle.edf.specs.Safe.{Step}
use Rattle.table.specs.Rows.{fit_lawful}
use Rattle.table.specs.Budgets.{brittle}
use Rattle.session.specs.declared.Job.{Job}
use Rattle.session.specs.declared.Session.{Session}
use Rattle.session.specs.Reading.{job_at, rows_of, tasks, waits, most_budget, state_of}
use Rattle.session.specs.Calls.{changed, jobs_with, over_job_lem, unused_of, gains, given_job}
use Rattle.session.specs.Jobs.{jobs_length}
use Rattle.guarantee.specs.Good.{Good, good_places, in_session}
use Rattle.guarantee.specs.KeepsJobs.{Given, rest_same, rest_bounds, given_other, given_over}
use Rattle.guarantee.specs.KeepsStep.{Bounds, good_facts, good_step, good_bounds, good_changed}

-- who gains
gains_means : (s : Session) (i : ℕ) → gains s i ≡ true → (brittle (tasks s) i ≡ false) × (waits s i ≡ true) × ((job_at s s.chosen).due < (job_at s i).due)
unfolding gains
gains_means s i e =
    let a = and-true (not (brittle (tasks s) i)) _ e in
    let b = and-true (waits s i) _ a.1 in
    (not-true (brittle (tasks s) i) a.0, b.0, ltb-true _ _ b.1)

module _ (s : Session) (g : Good (rows_of s) s) (row : s.chosen < s.count) (waiting : waits s s.chosen ≡ true) where
  abbrev after : Session
  after = changed s s.clock (jobs_with s (given_job s) s.count) 0 0

  is : job_at after s.chosen ≡ over_job_lem (job_at s s.chosen)
  is = given_over s (good_places g) row

  given : (i : ℕ) → i < s.count → ¬ (i ≡ s.chosen) → Given s i (job_at after i)
  given = given_other s (good_places g)

  pub over_step : Over (tasks s) s.chosen (state_of s) (state_of after)
  unfolding waits
  over_step = record {
    row = omega (arith, g.count);
    waiting = waiting;
    clock = refl;
    next = ap (λ (j : Job). j.next) is;
    waits = ap (λ (j : Job). ltb 0 j.left) is;
    others = λ i l ne. rest_same s after i (given i (in_session g i l) ne).rest;
  }

  -- no job gains more than the unused ticks, and one of no later deadline nothing
  finish_step : Finish (tasks s) s.chosen (state_of s) (state_of after)
  finish_step = record {
    over = over_step;
    earlier = λ i l ne w h. both (gains s i)
        (λ e. absurd (omega (arith, (gains_means s i e).2)))
        (λ e. omega (arith, (given i (in_session g i l) ne).stays e));
    later = λ i l ne w h. both (gains s i)
        (λ e. omega (arith, (given i (in_session g i l) ne).changes e))
        (λ e. omega (arith, (given i (in_session g i l) ne).stays e));
  }

  -- ---- soundness

  -- no budget is above the most: the row of a job that gains is not brittle, and there the cap is the most
  bounds : (i : ℕ) → i < s.count → Bounds (tasks s) after i
  unfolding waits most_budget
  bounds i l =
      let f = good_bounds s g i l in
      dite (ℕ_discrete i s.chosen)
      (λ e. rw e
      (let c = good_bounds s g s.chosen row in
      record {
        next = omega (arith, ap (λ (j : Job). j.next) is, c.next);
        budget = λ h. absurd (omega (arith, ltb-true 0 (job_at after s.chosen).left h, ap (λ (j : Job). j.left) is));
      }))
      (λ ne. rest_bounds (tasks s) s after i (given i l ne) (omega arith)
      (λ e w. simp (gains_means s i e).0 (omega arith)) f)

  pub good_finish : Good (rows_of s) after
  good_finish =
      good_changed s g s.clock (jobs_with s (given_job s) s.count) 0 0
      (jobs_length s (given_job s) s.count ∙ g.places) (good_facts s g).clock
      (good_step s g (state_of after) (Step.finished s.chosen finish_step))
      (λ n. absurd (omega arith)) bounds (inl refl)

  -- ---- the cap

  room : (i : ℕ) → i < (tasks s).rows → waits after i ≡ true
      → (job_at s s.chosen).due ≤ (job_at s i).due → (job_at s i).budget + unused_of s + (tasks s).C i ≤ (tasks s).D i
  room =
      let v = g.safe in
      finish_cap (tasks s) (fit_lawful (tasks s) g.fit) (state_of s) (state_of after) s.chosen over_step v.slack.slack v.elapsed

  -- THE CAP CUTS NOTHING
  pub finish_whole : (i : ℕ) → i < s.count → gains s i ≡ true
      → ((job_at s i).budget + unused_of s ≤ (tasks s).D i - (tasks s).C i) × ((job_at after i).budget ≡ (job_at s i).budget + unused_of s)
  finish_whole i l e =
      let m = gains_means s i e in
      let ne : ¬ (i ≡ s.chosen) = λ q. omega (arith, m.2, ap (λ (z : ℕ). (job_at s z).due) q) in
      let p = given i l ne in
      let r = room i (omega (arith, g.count)) ((rest_same s after i p.rest).waits ∙ m.1) (omega (arith, m.2)) in
      (omega arith, omega (arith, p.changes e))
