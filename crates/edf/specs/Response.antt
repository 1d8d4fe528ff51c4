-- How far clock and load by a time d can rise in each step: how late a job can be (docs/SPECIFICATION.md §14.1). Budgets play no part
-- in it. Assumes nothing.
-- ---- definitions
use Rattle.std.specs.Prelude.{ℕ, ◌+◌, ◌≤◌, ◌<◌, ◌≡◌, true}
use Rattle.std.proofs.Common.{le_refl}
use native.Mathlib.Omega.{arith}
use Rattle.edf.specs.Demand.{TaskSet, Lawful, interference}
use Rattle.edf.specs.State.{State, load, load_has}

-- how long a job of row i can take where no later job runs before it: C, and what the other rows can ask for in a stretch of D. It is
-- D − V.
unfoldable pub response_of : TaskSet → ℕ → ℕ
response_of τ i = τ.C i + interference τ i (τ.D i)

-- clock and load by d: not before this is everything done that can be due by d, if no tick is lost
unfoldable pub reach : TaskSet → State → ℕ → ℕ
reach τ s d = s.clock + load τ s d

-- a waiting job has yet to run for what it has left
pub reach_left : (τ : TaskSet) → Lawful τ → (s : State) (i : ℕ) → i < τ.rows → s.waits i ≡ true → s.clock + s.left i ≤ reach τ s (s.due i)
unfolding reach
reach_left τ ok s i l w = omega (arith, load_has τ ok s (s.due i) i l w (le_refl (s.due i)))
