-- What one tick more costs, what must go from an overloaded table, and what is printed of both (docs/SPECIFICATION.md §14.2 to §14.4).
-- Definitions only. Assumes nothing.
use Rattle.std.specs.Prelude.{ℕ, ◌+◌, ◌-◌, ◌*◌, cond, List, [], ◌++◌, ltb, eqb, get_or, set}
use Rattle.bounded.specs.Quotient.{ceil_div}
use Rattle.decimal.specs.Joined.{join_to}
use Rattle.edf.specs.Jobs.{jobs_by_lem}
use Rattle.edf.specs.Demand.{TaskSet, demand}
use Rattle.lines.specs.Text.{field_text, head_text, line_text}

-- the table l with another C of row j
abbrev with_run : List ℕ → ℕ → ℕ → List ℕ
with_run l j c = set l (3 * j) c

-- with x ticks more in it, and with x ticks less
unfoldable pub raised : List ℕ → ℕ → ℕ → List ℕ
raised l j x = with_run l j (get_or l (3 * j) 0 + x)

unfoldable pub lowered : List ℕ → ℕ → ℕ → List ℕ
lowered l j x = with_run l j (get_or l (3 * j) 0 - x)

-- by how much V of row i falls where C of row j rises by one tick: by 1 if it is the same row, else by D of i divided by T of j, rounded up
unfoldable pub cost_of : TaskSet → ℕ → ℕ → ℕ
cost_of τ i j = cond (eqb i j) 1 (ceil_div (τ.D i) (τ.T j))

-- the least fall of a C that takes an excess away, where n jobs of the row are due; 0 where none of them is, or C is too short
unfoldable pub cut_by : ℕ → ℕ → ℕ → ℕ
cut_by excess n c = cond (eqb n 0) 0 (cond (ltb (ceil_div excess n) c) (ceil_div excess n) 0)

-- how far C of row i must fall, alone, for the demand at t to be t or less
unfoldable pub cut_of : TaskSet → ℕ → ℕ → ℕ
cut_of τ t i = cut_by (demand τ t - t) (jobs_by_lem (τ.D i) (τ.T i) t) (τ.C i)

-- letter `S`: rows i and j, and the cost; none where C of j is D, which bounds it
unfoldable pub cost_text : TaskSet → ℕ → ℕ → List ℕ
cost_text τ i j = cond (ltb (τ.C j) (τ.D j)) (head_text 0 83 0 i ++ field_text j 9 ++ field_text (cost_of τ i j) 10) []

-- for each j
unfoldable pub costs_of_row : TaskSet → ℕ → List ℕ
costs_of_row τ i = join_to (cost_text τ i) τ.rows

-- and for each i
unfoldable pub costs_text : TaskSet → List ℕ
costs_text τ = join_to (costs_of_row τ) τ.rows

-- letter `L`: a row and its cut
abbrev pub cut_text : TaskSet → ℕ → ℕ → List ℕ
cut_text τ t i = line_text 0 76 0 i (cut_of τ t i)

unfoldable pub cuts_text : TaskSet → ℕ → List ℕ
cuts_text τ t = join_to (cut_text τ t) τ.rows
