-- How much a tick matters, and what must go from an overloaded table (docs/SPECIFICATION.md §14.2, §14.3). Statements only. Assumes nothing.
use Rattle.std.specs.Prelude.{ℕ, ◌≤◌, ◌<◌, ◌≡◌, List, pos, ◌+ℤ◌}
use Rattle.bounded.specs.Quotient.{ceil_div}
use Rattle.edf.specs.Demand.{demand}
use Rattle.table.specs.Rows.{tasks_of, Fit}
use Rattle.table.specs.Budgets.{budget_of}
use Rattle.table.specs.Verdict.{opinion_of}
use Rattle.planning.specs.Planning.{raised, lowered, cost_of, cut_of}

-- HOW MUCH A TICK MATTERS: one tick more in C of row j, both tables keeping the row rule, lowers V of another row i by exactly D of i
-- divided by T of j, rounded up, and V of j by exactly 1
abbrev pub TickMatters : Type 0
TickMatters =
    (l : List ℕ) (j : ℕ) → j < (tasks_of l).rows → Fit (tasks_of l) → Fit (tasks_of (raised l j 1))
    → ((i : ℕ) → i < (tasks_of l).rows → ¬ (i ≡ j)
    → budget_of (tasks_of l) i ≡ budget_of (tasks_of (raised l j 1)) i +ℤ pos (ceil_div ((tasks_of l).D i) ((tasks_of l).T j)))
    × (budget_of (tasks_of l) j ≡ budget_of (tasks_of (raised l j 1)) j +ℤ pos 1)

-- THE COST IS EXACT: where C of row j is below D, the table with one tick more in it keeps the row rule too, and V of row i falls by
-- the cost. These are the pairs of which a line `S` is printed.
abbrev pub CostExact : Type 0
CostExact =
    (l : List ℕ) (i j : ℕ) → i < (tasks_of l).rows → j < (tasks_of l).rows → Fit (tasks_of l) → (tasks_of l).C j < (tasks_of l).D j
    → Fit (tasks_of (raised l j 1)) × (budget_of (tasks_of l) i ≡ budget_of (tasks_of (raised l j 1)) i +ℤ pos (cost_of (tasks_of l) i j))

-- k is the least fall of C of row i, alone, after which the demand at t is t or less, the row rule being kept
pub record LeastFall (l : List ℕ) (t i k : ℕ) : Type 0 where
  pub some : 1 ≤ k
  pub fit : Fit (tasks_of (lowered l i k))
  pub enough : demand (tasks_of (lowered l i k)) t ≤ t
  pub least : (x : ℕ) → x < k → t < demand (tasks_of (lowered l i x)) t

-- there is none, as long as C of i is 1 or more
abbrev pub NoFall : List ℕ → ℕ → ℕ → Type 0
NoFall l t i = (x : ℕ) → x < (tasks_of l).C i → t < demand (tasks_of (lowered l i x)) t

-- THE CUT IS EXACT: of a table refused with 3, for the first overload, the first value of its refusal
abbrev pub CutExact : Type 0
CutExact =
    (l : List ℕ) → (opinion_of l).number ≡ 3 → (i : ℕ) → i < (tasks_of l).rows
    → ((cut_of (tasks_of l) (opinion_of l).first i ≡ 0 → ⊥) → LeastFall l (opinion_of l).first i (cut_of (tasks_of l) (opinion_of l).first i))
    × (cut_of (tasks_of l) (opinion_of l).first i ≡ 0 → NoFall l (opinion_of l).first i)

-- THE FIRST OVERLOAD IS GONE: after the cut a table that is still refused with 3 names a later tick
abbrev pub CutLater : Type 0
CutLater =
    (l : List ℕ) → (opinion_of l).number ≡ 3 → (i : ℕ) → i < (tasks_of l).rows → (cut_of (tasks_of l) (opinion_of l).first i ≡ 0 → ⊥)
    → (opinion_of (lowered l i (cut_of (tasks_of l) (opinion_of l).first i))).number ≡ 3
    → (opinion_of l).first < (opinion_of (lowered l i (cut_of (tasks_of l) (opinion_of l).first i))).first
