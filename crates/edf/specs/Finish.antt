-- A job that is over keeps what makes every deadline met, and a fresh state has it. Assumes nothing.
use Rattle.std.specs.Prelude.{ℕ, ◌≤◌, ◌<◌, ◌≡◌, true}
use Rattle.std.proofs.Common.{sym, ◌∙◌, true≢false, arith}
use Rattle.edf.specs.Demand.{TaskSet, Lawful}
use Rattle.edf.specs.State.{State, soonest, WellFormed, Slack, Elapsed, soonest_le}
use Rattle.edf.specs.Steps.{Over, Start}

module _ (τ : TaskSet) (ok : Lawful τ) (s s' : State) (k : ℕ) (st : Over τ k s s') where
  -- a job that waits after it is of another row, and waited before it
  pub over_other : (i : ℕ) → s'.waits i ≡ true → ¬ (i ≡ k)
  over_other i w e = true≢false (sym w ∙ rw e st.waits)

  pub over_waits : (i : ℕ) → i < τ.rows → s'.waits i ≡ true → s.waits i ≡ true
  over_waits i l w = sym (st.others i l (over_other i w)).waits ∙ w

  pub over_soonest : (i : ℕ) → i < τ.rows → soonest s i ≤ soonest s' i
  over_soonest = soonest_le τ ok s s' (omega arith) k st.row st.others (omega arith)

  pub over_formed : WellFormed τ s → WellFormed τ s'
  over_formed formed i l w =
      let g = formed i l (over_waits i l w) in
      let e = st.others i l (over_other i w) in
      record { some = omega arith; most = omega arith; deadline = omega arith; ahead = omega arith }

  pub over_elapsed : Elapsed τ s → Elapsed τ s'
  over_elapsed el i l w = omega (arith, st.others i l (over_other i w), el i l (over_waits i l w))

module _ (τ : TaskSet) (ok : Lawful τ) (s : State) (st : Start τ s) where
  pub start_none : {P : Type 0} (i : ℕ) → i < τ.rows → s.waits i ≡ true → P
  start_none i l w = absurd (true≢false (sym w ∙ st.waits i l))

  pub start_formed : WellFormed τ s
  start_formed i l w = start_none i l w

  pub start_slack : Slack τ s
  start_slack i l w = start_none i l w

  pub start_elapsed : Elapsed τ s
  start_elapsed i l w = start_none i l w
