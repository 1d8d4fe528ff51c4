-- Time that passes, with a job that runs or with none, keeps what makes every deadline met. Assumes nothing.
use Rattle.std.specs.Prelude.{ℕ, ◌≤◌, ◌<◌, ◌≡◌, true}
use Rattle.std.proofs.Common.{sym, ◌∙◌, arith}
use Rattle.std.proofs.Math.Logic.{dite}
use Rattle.std.proofs.Math.Decide.{ℕ_discrete}
use Rattle.edf.specs.Demand.{TaskSet, Lawful}
use Rattle.edf.specs.State.{State, soonest, Elapsed, soonest_le}
use Rattle.edf.specs.Steps.{Run, Idle}

module _ (τ : TaskSet) (ok : Lawful τ) (s s' : State) (k m : ℕ) (st : Run τ k m s s') where
  -- a job that waits after the run waited before it
  pub run_waits : (i : ℕ) → i < τ.rows → s'.waits i ≡ true → s.waits i ≡ true
  run_waits i l w = dite (ℕ_discrete i k) (λ e. rw e st.waiting) (λ ne. sym (st.others i l ne).waits ∙ w)

  pub run_soonest : (i : ℕ) → i < τ.rows → soonest s i ≤ soonest s' i
  run_soonest = soonest_le τ ok s s' (omega arith) k st.row st.others (omega arith)

  pub run_elapsed : Elapsed τ s → Elapsed τ s'
  run_elapsed el i l w =
      let u = el i l (run_waits i l w) in
      dite (ℕ_discrete i k)
      (λ e.
      let x : s'.waits k ≡ true = rw e at w in
      rw e (omega (arith, el k st.row st.waiting, st.due x)))
      (λ ne. omega (arith, st.others i l ne))

module _ (τ : TaskSet) (ok : Lawful τ) (s s' : State) (m : ℕ) (st : Idle τ m s s') where
  pub idle_waits : (i : ℕ) → i < τ.rows → s'.waits i ≡ true → s.waits i ≡ true
  idle_waits i l w = sym (st.others i l).waits ∙ w

  pub idle_elapsed : Elapsed τ s → Elapsed τ s'
  idle_elapsed el i l w = omega (arith, st.others i l, el i l (idle_waits i l w))
