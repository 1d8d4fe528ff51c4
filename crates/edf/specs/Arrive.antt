-- An arrival keeps what makes every deadline met. Assumes nothing.
use Prim.Native.Nat.{ℕ, ◌+◌, ◌≤◌, ◌<◌}
use Rattle.std.specs.Prelude.{◌≡◌, true, false}
use Rattle.std.proofs.Common.{sym, ◌∙◌}
use Rattle.std.proofs.Math.Logic.{dite}
use native.Mathlib.Omega.{arith}
use Rattle.std.proofs.Math.Decide.{ℕ_discrete}
use Rattle.bounded.specs.Tests.{both}
use Rattle.edf.specs.Demand.{TaskSet, Lawful}
use Rattle.edf.specs.State.{State, soonest, to_come, row_load, WellFormed, WellFormedJob, Same, Elapsed, pending_same, soonest_le}
use Rattle.edf.specs.Steps.{Arrive}

module _ (τ : TaskSet) (ok : Lawful τ) (s : State) (formed : WellFormed τ s) where
  -- a row of which a job may arrive has none that waits
  pub ready_idle : (k : ℕ) → k < τ.rows → s.next k ≤ s.clock → s.waits k ≡ false
  ready_idle k l h = both (s.waits k) (λ w. absurd (omega (arith, formed k l w, ok k l))) (λ w. w)

-- row k is as an arrival at the clock leaves it, whatever happens to other rows
pub record Came (τ : TaskSet) (k : ℕ) (s s' : State) : Type 0 where
  pub row : k < τ.rows
  pub ready : s.next k ≤ s.clock
  pub clock : s'.clock ≡ s.clock
  pub next : s'.next k ≡ s.clock + τ.T k
  pub due : s'.due k ≡ s.clock + τ.D k
  pub left : s'.left k ≡ τ.C k
  pub waits : s'.waits k ≡ true

module _ (τ : TaskSet) (ok : Lawful τ) (s s' : State) (formed : WellFormed τ s) (k : ℕ) (st : Came τ k s s') where
  pub came_formed : WellFormedJob τ s' k
  came_formed = let r = ok k st.row in record { some = omega arith; most = omega arith; deadline = omega arith; ahead = omega arith }

-- another row, at the same clock
module _ (τ : TaskSet) (s s' : State) (i : ℕ) (e : Same s s' i) (clock : s'.clock ≡ s.clock) where
  pub kept_load : (d : ℕ) → row_load τ s' d i ≡ row_load τ s d i
  unfolding to_come
  kept_load d = rw (pending_same s s' d i e, e.next, clock)

  pub kept_formed : WellFormedJob τ s i → WellFormedJob τ s' i
  kept_formed g = record { some = omega arith; most = omega arith; deadline = omega arith; ahead = omega arith }

module _ (τ : TaskSet) (ok : Lawful τ) (s s' : State) (formed : WellFormed τ s) (k b : ℕ) (st : Arrive τ k b s s') where
  pub arrive_soonest : (i : ℕ) → i < τ.rows → soonest s i ≤ soonest s' i
  arrive_soonest = soonest_le τ ok s s' (omega arith) k st.row st.others (omega arith)

  pub arrive_elapsed : Elapsed τ s → Elapsed τ s'
  arrive_elapsed el i l w =
      dite (ℕ_discrete i k) (λ e. rw e (omega arith))
      (λ ne. let e = st.others i l ne in omega (arith, el i l (sym e.waits ∙ w)))
