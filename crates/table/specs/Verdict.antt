-- The opinion on a table, by its number and values (docs/SPECIFICATION.md §3). Assumes nothing.
use Rattle.std.specs.Prelude.{ℕ, ◌%◌, min, Bool, not, ◌||◌, cond, List, leb, ltb, eqb, ℤ, pos, length, replicate}
use Rattle.bounded.specs.Least.{least_from}
use Rattle.edf.specs.Demand.{TaskSet, demand}
use Rattle.table.specs.Rows.{horizon, tasks_of, first_broken_lem}
use Rattle.table.specs.Budgets.{loose, firm, values_of}
use Rattle.table.specs.Busy.{busy_length}

-- an opinion on a table: its number, 0 where the table is admitted; two values; and V of each row
pub record Opinion : Type 0 where
  pub number : ℕ
  pub first : ℕ
  pub second : ℕ
  pub budgets : List ℤ

-- a refusal has no budgets
abbrev pub refusal : ℕ → ℕ → ℕ → Opinion
refusal n a b = record { number = n; first = a; second = b; budgets = replicate 16 (pos 0) }

-- an admitted table's values are its kind, 1 loose, 2 tight and 3 mixed, and its number of rows
abbrev pub admitted : ℕ → TaskSet → Opinion
admitted kind τ = record { number = 0; first = kind; second = τ.rows; budgets = values_of τ }

-- length 0, above 48 or no multiple of 3
unfoldable pub bad_length : ℕ → Bool
bad_length n = eqb n 0 || ltb 48 n || not (eqb (n % 3) 0)

-- the demand is compared for t from 1 to the busy length, or to 1,000,000 if the busy length is greater or there is none
unfoldable pub compared_to : TaskSet → ℕ
compared_to τ = min (busy_length τ) horizon

-- the first t of the compared range whose demand exceeds it; one past the range where there is none
unfoldable pub first_overload : TaskSet → ℕ
first_overload τ = least_from (λ t. ltb t (demand τ t)) 1 (compared_to τ)

-- the demand exceeds t somewhere in the compared range
unfoldable pub overloaded : TaskSet → Bool
overloaded τ = leb (first_overload τ) (compared_to τ)

-- there is a busy length up to 1,000,000
unfoldable pub settled : TaskSet → Bool
settled τ = leb (busy_length τ) horizon

-- the kind of a table that is admitted and not loose: mixed where some V is not negative, and otherwise tight
unfoldable pub heavy_kind : TaskSet → ℕ
heavy_kind τ = cond (firm τ) 3 2

-- the opinion on 1 to 16 rows that keep their rule
unfoldable pub judged_of : TaskSet → Opinion
judged_of τ =
    cond (loose τ) (admitted 1 τ)
    (cond (overloaded τ) (refusal 3 (first_overload τ) (demand τ (first_overload τ))) (cond (settled τ) (admitted (heavy_kind τ) τ) (refusal 4 horizon 0)))

-- the opinion on any slice of numbers, the lower number first
unfoldable pub opinion_of : List ℕ → Opinion
opinion_of l =
    cond (bad_length (length l)) (refusal 1 (length l) 0)
    (cond (ltb (first_broken_lem (tasks_of l)) (tasks_of l).rows) (refusal 2 (first_broken_lem (tasks_of l)) 0) (judged_of (tasks_of l)))

-- the kind that an opinion admits a table as; 0 where it is a refusal
abbrev pub kind_in : Opinion → ℕ
kind_in a = cond (eqb a.number 0) a.first 0

unfoldable pub kind_of : List ℕ → ℕ
kind_of l = kind_in (opinion_of l)
