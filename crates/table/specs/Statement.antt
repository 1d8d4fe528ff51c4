-- What an opinion on a table means, for every slice of numbers (docs/SPECIFICATION.md §3, §4). Statements only.
use Rattle.std.specs.Prelude.{ℕ, ◌+◌, ◌*◌, ◌≤◌, ◌<◌, ◌≡◌, true, false, List, pos, length, get_or}
use Rattle.edf.specs.Demand.{TaskSet, Feasible, Shortened, demand, request}
use Rattle.edf.specs.Arrivals.{Unservable}
use Rattle.table.specs.Rows.{horizon, tasks_of, first_broken_lem}
use Rattle.table.specs.Budgets.{budget_of, brittle}
use Rattle.table.specs.Verdict.{bad_length, opinion_of}

-- what each kind says of the rows: 1 loose, no row is brittle; 2 tight, each is; 3 mixed, some are and some are not
pub data HasKind (τ : TaskSet) : ℕ → Type 0 where
  is_loose : ((i : ℕ) → i < τ.rows → brittle τ i ≡ false) → HasKind τ 1
  is_tight : ((i : ℕ) → i < τ.rows → brittle τ i ≡ true) → HasKind τ 2
  is_mixed : (i j : ℕ) → i < τ.rows → brittle τ i ≡ true → j < τ.rows → brittle τ j ≡ false → HasKind τ 3

abbrev pub KindMeans : Type 0
KindMeans = (l : List ℕ) → (opinion_of l).number ≡ 0 → HasKind (tasks_of l) (opinion_of l).first

-- the opinion on an admitted table has V of each row
abbrev pub EachBudget : Type 0
EachBudget =
    (l : List ℕ) → (opinion_of l).number ≡ 0 → (i : ℕ) → i < (tasks_of l).rows → get_or (opinion_of l).budgets i (pos 0) ≡ budget_of (tasks_of l) i

-- no tick is asked for more than there is up to it, at any t whatever
abbrev pub AdmittedFits : Type 0
AdmittedFits = (l : List ℕ) → (opinion_of l).number ≡ 0 → Feasible (tasks_of l)

-- a table refused as overloaded has allowed arrivals of which every order of work leaves some job not served in time
abbrev pub OverloadDeserved : Type 0
OverloadDeserved = (l : List ℕ) → (opinion_of l).number ≡ 3 → Unservable (tasks_of l)

-- a table refused with 4 has no overload up to 1,000,000, and no busy length up to there
abbrev pub UnsettledMeans : Type 0
UnsettledMeans =
    (l : List ℕ) → (opinion_of l).number ≡ 4
    → ((x : ℕ) → 1 ≤ x → x ≤ horizon → demand (tasks_of l) x ≤ x) × ((r : ℕ) → 1 ≤ r → r ≤ horizon → request (tasks_of l) r ≡ r → ⊥)

-- a table of 1 to 16 rows that keep their rule, whose demand exceeds no t, is refused only with 4, and only where it has no
-- busy length up to 1,000,000
abbrev pub FittingRefused : Type 0
FittingRefused =
    (l : List ℕ) → bad_length (length l) ≡ false → first_broken_lem (tasks_of l) ≡ (tasks_of l).rows → Feasible (tasks_of l)
    → ((opinion_of l).number ≡ 0 → ⊥)
    → ((opinion_of l).number ≡ 4) × ((r : ℕ) → 1 ≤ r → r ≤ horizon → request (tasks_of l) r ≡ r → ⊥)

-- the tick of a refusal 3 is the first of all ticks whose demand exceeds it, and the second value is that demand
abbrev pub FirstOverload : Type 0
FirstOverload =
    (l : List ℕ) → (opinion_of l).number ≡ 3
    → ((opinion_of l).first < demand (tasks_of l) (opinion_of l).first)
    × ((opinion_of l).second ≡ demand (tasks_of l) (opinion_of l).first)
    × ((x : ℕ) → x < (opinion_of l).first → demand (tasks_of l) x ≤ x)

-- it is a deadline, of the j-th job of some row i, from 0, where all rows start together at 0
abbrev pub OverloadDue : Type 0
OverloadDue =
    (l : List ℕ) → (opinion_of l).number ≡ 3
    → (i : ℕ) × (j : ℕ) × (i < (tasks_of l).rows) × ((opinion_of l).first ≡ j * (tasks_of l).T i + (tasks_of l).D i)

-- and where runs are shortened, it does not come earlier
abbrev pub ShortenedLater : Type 0
ShortenedLater =
    (l m : List ℕ) → (opinion_of l).number ≡ 3 → (opinion_of m).number ≡ 3 → Shortened (tasks_of m) (tasks_of l) → (opinion_of l).first ≤ (opinion_of m).first
