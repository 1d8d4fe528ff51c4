-- A scheduler's state over a table, its load by a time, and what makes every deadline met. Assumes nothing.
-- ---- definitions
use Rattle.std.specs.Prelude.{ℕ, ◌+◌, ◌-◌, ◌*◌, max, ◌≤◌, ◌<◌, ◌≡◌, Bool, true, false, leb}
use Rattle.std.proofs.Common.{◌∙◌, le_refl, le_trans, le-leb}
use Rattle.std.proofs.Math.Logic.{dite}
use native.Mathlib.Omega.{arith}
use Rattle.std.proofs.Math.Decide.{ℕ_discrete}
use Rattle.std.proofs.lemmas.Bool.{lt-leb}
use Rattle.bounded.specs.Sum.{sum_to, sum_term}
use Rattle.bounded.specs.Besides.{besides}
use Rattle.bounded.specs.Tests.{gate, gate_on, gate_off, gate_le}
use Rattle.edf.specs.Jobs.{jobs_by_lem}
use Rattle.edf.specs.Demand.{TaskSet, Lawful}

-- the clock; and of row i: its earliest next arrival, whether a job of it waits, and of that job the deadline, the
-- remaining ticks and the budget left: how long jobs of later deadline, or none, may still run before it (the
-- remaining inversion budget)
pub record State : Type 0 where
  pub clock : ℕ
  pub next : ℕ → ℕ
  pub due : ℕ → ℕ
  pub left : ℕ → ℕ
  pub budget : ℕ → ℕ
  pub waits : ℕ → Bool

-- the earliest tick at which a job of row i that has not arrived yet can arrive
abbrev pub soonest : State → ℕ → ℕ
soonest s i = max s.clock (s.next i)

-- the remaining ticks of row i's waiting job, where it is due by d
unfoldable pub pending : State → ℕ → ℕ → ℕ
pending s d i = gate (s.waits i) (gate (leb (s.due i) d) (s.left i))

-- how many jobs of row i that have not arrived yet are due by d, where they arrive as early and as often as they may
unfoldable pub to_come : TaskSet → State → ℕ → ℕ → ℕ
to_come τ s d i = jobs_by_lem (τ.D i) (τ.T i) (d - soonest s i)

-- the work of row i that can still have to be done by d
abbrev pub row_load : TaskSet → State → ℕ → ℕ → ℕ
row_load τ s d i = pending s d i + τ.C i * to_come τ s d i

-- the load: the work of all rows that can still have to be done by d
unfoldable pub load : TaskSet → State → ℕ → ℕ
load τ s d = sum_to (row_load τ s d) τ.rows

-- and of all rows but k
unfoldable pub load_besides : TaskSet → State → ℕ → ℕ → ℕ
load_besides τ s k d = sum_to (besides (row_load τ s d) k) τ.rows

-- a waiting job: 1 ≤ remaining ≤ C, its deadline is the earliest next arrival - T + D, and lies ahead of the clock
pub record WellFormedJob (τ : TaskSet) (s : State) (i : ℕ) : Type 0 where
  pub some : 1 ≤ s.left i
  pub most : s.left i ≤ τ.C i
  pub deadline : s.due i + τ.T i ≡ s.next i + τ.D i
  pub ahead : s.clock < s.due i

abbrev pub WellFormed : TaskSet → State → Type 0
WellFormed τ s = (i : ℕ) → i < τ.rows → s.waits i ≡ true → WellFormedJob τ s i

-- by the deadline of each waiting job there is time for the load and for the job's budget
abbrev pub Slack : TaskSet → State → Type 0
Slack τ s = (i : ℕ) → i < τ.rows → s.waits i ≡ true → s.clock + load τ s (s.due i) + s.budget i ≤ s.due i

-- by every d of which W holds there is time for the load
abbrev pub SlackOn : TaskSet → State → (ℕ → Type 0) → Type 0
SlackOn τ s W = (d : ℕ) → W d → s.clock ≤ d → s.clock + load τ s d ≤ d

-- by every d from the clock on there is time for the load
abbrev pub AllSlack : TaskSet → State → Type 0
AllSlack τ s = (d : ℕ) → s.clock ≤ d → s.clock + load τ s d ≤ d

-- row k's job is a head: no waiting job has an earlier deadline
abbrev pub Head : TaskSet → State → ℕ → Type 0
Head τ s k = (i : ℕ) → i < τ.rows → s.waits i ≡ true → s.due k ≤ s.due i

-- each waiting job arrived, at due - D, at least as long ago as it has run, which is C - left
abbrev pub Elapsed : TaskSet → State → Type 0
Elapsed τ s = (i : ℕ) → i < τ.rows → s.waits i ≡ true → s.due i + τ.C i ≤ s.clock + s.left i + τ.D i

-- row i is in s' as it is in s, but perhaps for its budget
pub record Same (s s' : State) (i : ℕ) : Type 0 where
  pub next : s'.next i ≡ s.next i
  pub due : s'.due i ≡ s.due i
  pub left : s'.left i ≡ s.left i
  pub waits : s'.waits i ≡ s.waits i

-- and so is every row but k
abbrev pub Others : TaskSet → ℕ → State → State → Type 0
Others τ k s s' = (i : ℕ) → i < τ.rows → ¬ (i ≡ k) → Same s s' i

-- ---- one row

pub pending_le : (s : State) (d i : ℕ) → pending s d i ≤ s.left i
unfolding pending
pending_le s d i = le_trans (gate_le (s.waits i) _) (gate_le (leb (s.due i) d) _)

pub pending_in : (s : State) (d i : ℕ) → s.waits i ≡ true → s.due i ≤ d → pending s d i ≡ s.left i
unfolding pending
pending_in s d i w h = gate_on (s.waits i) _ w ∙ gate_on (leb (s.due i) d) _ (le-leb (s.due i) d h)

pub pending_idle : (s : State) (d i : ℕ) → s.waits i ≡ false → pending s d i ≡ 0
unfolding pending
pending_idle s d i w = gate_off (s.waits i) _ w

pub pending_later : (s : State) (d i : ℕ) → d < s.due i → pending s d i ≡ 0
unfolding pending
pending_later s d i h =
    omega (arith, gate_le (s.waits i) (gate (leb (s.due i) d) (s.left i)), gate_off (leb (s.due i) d) (s.left i) (lt-leb (s.due i) d h))

pub pending_same : (s s' : State) (d i : ℕ) → Same s s' i → pending s' d i ≡ pending s d i
unfolding pending
pending_same s s' d i e = cc

-- ---- the load

module _ (τ : TaskSet) (ok : Lawful τ) where
  -- a waiting job's remaining ticks are part of the load by its deadline
  pub load_has : (s : State) (d i : ℕ) → i < τ.rows → s.waits i ≡ true → s.due i ≤ d → s.left i ≤ load τ s d
  unfolding load
  load_has s d i l w h = omega (arith, sum_term (row_load τ s d) τ.rows i l, pending_in s d i w h)

  -- a waiting job with slack has its deadline ahead
  pub slack_ahead : (s : State) → Slack τ s → (i : ℕ) → i < τ.rows → s.waits i ≡ true → 1 ≤ s.left i → s.clock < s.due i
  slack_ahead s sl i l w h = omega (arith, sl i l w, load_has s (s.due i) i l w (le_refl (s.due i)))

  -- ---- from a state to one that is not before it

  module _ (s s' : State) (up : s.clock ≤ s'.clock) where
    module _ (k : ℕ) (row : k < τ.rows) (others : Others τ k s s') (later : s.next k ≤ s'.next k) where
      -- where every row but k is, and k's next job can arrive no earlier, no next job can
      pub soonest_le : (i : ℕ) → i < τ.rows → soonest s i ≤ soonest s' i
      soonest_le i l = dite (ℕ_discrete i k) (λ e. rw e (omega arith)) (λ ne. omega (arith, others i l ne))

  -- where the clock stands and the load does not grow, the slack stays
  pub on_le : (s s' : State) → s'.clock ≡ s.clock → ((d : ℕ) → load τ s' d ≤ load τ s d)
      → (W W' : ℕ → Type 0) → ((d : ℕ) → W' d → W d) → SlackOn τ s W → SlackOn τ s' W'
  on_le s s' e le W W' sub al d v h = omega (arith, le d, al d (sub d v) (omega arith))
