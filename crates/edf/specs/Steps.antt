-- The steps of a scheduler: how the state s' after each differs from the state s before it. Assumes nothing.
use Rattle.std.specs.Prelude.{ℕ, ◌+◌, ◌-◌, ◌≤◌, ◌<◌, ◌≡◌, true, false, ltb}
use Rattle.edf.specs.Demand.{TaskSet}
use Rattle.edf.specs.State.{State, Same, Others}

-- a fresh state
pub record Start (τ : TaskSet) (s : State) : Type 0 where
  pub clock : s.clock ≡ 0
  pub next : (i : ℕ) → i < τ.rows → s.next i ≡ 0
  pub waits : (i : ℕ) → i < τ.rows → s.waits i ≡ false

-- a job of row k arrives, from its earliest next arrival on, with the budget b: the earliest next arrival becomes
-- clock + T, and the job waits with deadline clock + D and remaining C
pub record Arrive (τ : TaskSet) (k b : ℕ) (s s' : State) : Type 0 where
  pub row : k < τ.rows
  pub ready : s.next k ≤ s.clock
  pub clock : s'.clock ≡ s.clock
  pub next : s'.next k ≡ s.clock + τ.T k
  pub due : s'.due k ≡ s.clock + τ.D k
  pub left : s'.left k ≡ τ.C k
  pub budget : s'.budget k ≡ b
  pub waits : s'.waits k ≡ true
  pub others : Others τ k s s'
  pub budgets : (i : ℕ) → i < τ.rows → ¬ (i ≡ k) → s'.budget i ≡ s.budget i

-- the clock rises by m and row k's waiting job runs: its remaining falls by m, and at 0 it is over, with nothing said of
-- its deadline; each waiting job of strictly earlier deadline loses m of budget
pub record Run (τ : TaskSet) (k m : ℕ) (s s' : State) : Type 0 where
  pub row : k < τ.rows
  pub waiting : s.waits k ≡ true
  pub within : m ≤ s.left k
  pub clock : s'.clock ≡ s.clock + m
  pub next : s'.next k ≡ s.next k
  pub due : s'.waits k ≡ true → s'.due k ≡ s.due k
  pub left : s'.left k ≡ s.left k - m
  pub budget : s'.waits k ≡ true → s'.budget k ≡ s.budget k
  pub waits : s'.waits k ≡ ltb 0 (s.left k - m)
  pub others : Others τ k s s'
  pub earlier : (i : ℕ) → i < τ.rows → ¬ (i ≡ k) → s.waits i ≡ true → s.due i < s.due k → s'.budget i + m ≡ s.budget i
  pub later : (i : ℕ) → i < τ.rows → ¬ (i ≡ k) → s.waits i ≡ true → s.due k ≤ s.due i → s'.budget i ≡ s.budget i

-- the clock rises by m and nothing runs: each waiting job loses m of budget
pub record Idle (τ : TaskSet) (m : ℕ) (s s' : State) : Type 0 where
  pub clock : s'.clock ≡ s.clock + m
  pub others : (i : ℕ) → i < τ.rows → Same s s' i
  pub budgets : (i : ℕ) → i < τ.rows → s.waits i ≡ true → s'.budget i + m ≡ s.budget i

-- row k's waiting job is over
pub record Over (τ : TaskSet) (k : ℕ) (s s' : State) : Type 0 where
  pub row : k < τ.rows
  pub waiting : s.waits k ≡ true
  pub clock : s'.clock ≡ s.clock
  pub next : s'.next k ≡ s.next k
  pub waits : s'.waits k ≡ false
  pub others : Others τ k s s'

-- row k's waiting job is over early, and the waiting jobs of strictly later deadline gain its unused ticks as budget, or
-- less; no other job gains any
pub record Finish (τ : TaskSet) (k : ℕ) (s s' : State) : Type 0 where
  pub over : Over τ k s s'
  pub earlier : (i : ℕ) → i < τ.rows → ¬ (i ≡ k) → s.waits i ≡ true → s.due i ≤ s.due k → s'.budget i ≤ s.budget i
  pub later : (i : ℕ) → i < τ.rows → ¬ (i ≡ k) → s.waits i ≡ true → s.due k < s.due i → s'.budget i ≤ s.budget i + s.left k
