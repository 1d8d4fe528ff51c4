-- Every state that a scheduler's steps lead to has what makes every deadline met, whichever rows are brittle
-- (docs/SPECIFICATION.md §3.1): none in a loose table, each in a tight one, some in a mixed one. Assumes nothing.
use Rattle.std.specs.Prelude.{ℕ, ◌+◌, ◌≤◌, ◌<◌, ◌≡◌, Bool, true, false, ◌⊎◌}
use Rattle.std.proofs.Common.{sym, ◌∙◌, true≢false, inl, inr, arith}
use Rattle.bounded.specs.Tests.{both}
use Rattle.edf.specs.Demand.{TaskSet}
use Rattle.edf.specs.State.{State, soonest, load, WellFormed, Elapsed, Head}
use Rattle.edf.specs.Steps.{Arrive, Run, Idle, Finish}
use Rattle.edf.specs.Mixed.{MixedSlack}

pub record Safe (τ : TaskSet) (brittle : ℕ → Bool) (s : State) : Type 0 where
  pub formed : WellFormed τ s
  pub slack : MixedSlack τ brittle s
  pub elapsed : Elapsed τ s

-- row k's job is due no later than the next job of any brittle row can be
abbrev pub Near : TaskSet → (ℕ → Bool) → State → ℕ → Type 0
Near τ brittle s k = (j : ℕ) → j < τ.rows → brittle j ≡ true → s.due k ≤ soonest s j + τ.D j

-- row k's job may run: it is a head, or near
abbrev pub MayRun : TaskSet → (ℕ → Bool) → State → ℕ → Type 0
MayRun τ brittle s k = Head τ s k ⊎ Near τ brittle s k

-- nothing may run: no job waits, or no row is brittle
abbrev pub MayIdle : TaskSet → (ℕ → Bool) → State → Type 0
MayIdle τ brittle s = ((i : ℕ) → i < τ.rows → s.waits i ≡ false) ⊎ ((i : ℕ) → i < τ.rows → brittle i ≡ false)

-- a job arrives with a budget that the load leaves by its deadline, one of a brittle row with none; a job runs, or none, as the
-- two above say and as long as the budgets allow; and a job that is over early may give what it leaves unused to later ones
pub data Step (τ : TaskSet) (brittle : ℕ → Bool) (s s' : State) : Type 0 where
  arrived : (k b : ℕ) → Arrive τ k b s s' → (brittle k ≡ true → b ≡ 0)
      → (brittle k ≡ false → load τ s (s.clock + τ.D k) + b ≤ τ.D k) → Step τ brittle s s'
  ran : (k m : ℕ) → Run τ k m s s' → MayRun τ brittle s k → Step τ brittle s s'
  idled : (m : ℕ) → Idle τ m s s' → MayIdle τ brittle s → Step τ brittle s s'
  finished : (k : ℕ) → Finish τ k s s' → Step τ brittle s s'

-- ---- what may run still may after some time: no job arrives meanwhile, so a head stays one, and no brittle row's next
-- deadline comes nearer

module _ (τ : TaskSet) (brittle : ℕ → Bool) (s s' : State) (later : (i : ℕ) → i < τ.rows → soonest s i ≤ soonest s' i)
    (same : (i : ℕ) → i < τ.rows → s'.waits i ≡ true → (s.waits i ≡ true) × (s'.due i ≡ s.due i)) where
  pub may_run_still : (k : ℕ) → k < τ.rows → s'.waits k ≡ true → MayRun τ brittle s k → MayRun τ brittle s' k
  may_run_still k l w (inl head) = inl (λ i u x. omega (arith, head i u (same i u x).0, (same i u x).1, (same k l w).1))
  may_run_still k l w (inr near) = inr (λ j u b. omega (arith, near j u b, later j u, (same k l w).1))

  pub may_idle_still : MayIdle τ brittle s → MayIdle τ brittle s'
  may_idle_still (inl none) = inl (λ i l. both (s'.waits i) (λ w. absurd (true≢false (sym (same i l w).0 ∙ none i l))) (λ w. w))
  may_idle_still (inr firm) = inr firm
