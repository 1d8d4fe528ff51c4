-- An admitted table's length, and the most budget that its jobs have (docs/SPECIFICATION.md §3.1, §5.2). Assumes nothing.
use Rattle.std.specs.Prelude.{ℕ, ◌-◌, ◌≤◌, ◌≡◌, true, false, List, length}
use Rattle.std.proofs.Common.{arith}
use Rattle.bounded.specs.Tests.{both}
use Rattle.edf.specs.Demand.{TaskSet}
use Rattle.table.specs.Budgets.{brittle}
use Rattle.table.specs.Verdict.{bad_length, opinion_of}
use Rattle.session.specs.Reading.{most_budget}

-- ---- the length

pub opinion_length : (l : List ℕ) → (opinion_of l).number ≡ 0 → bad_length (length l) ≡ false
unfolding opinion_of
opinion_length l z = both (bad_length (length l)) (λ e. let x : 1 ≡ 0 = simp e at z in absurd (omega arith)) (λ e. e)

-- ---- the most budget

pub most_brittle : (τ : TaskSet) (i : ℕ) → brittle τ i ≡ true → most_budget τ i ≡ 0
unfolding most_budget
most_brittle τ i e = simp e

pub most_le : (τ : TaskSet) (i : ℕ) → most_budget τ i ≤ τ.D i - τ.C i
unfolding most_budget
most_le τ i = both (brittle τ i) (λ e. simp e (omega arith)) (λ e. simp e (omega arith))
