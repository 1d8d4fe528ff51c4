-- The rows of a table and their rule (docs/SPECIFICATION.md §2.1). Assumes nothing.
use Rattle.std.specs.Prelude.{ℕ, ◌+◌, ◌*◌, ◌/◌, ◌≤◌, ◌<◌, ◌^◌, ◌≡◌, Bool, false, not, ◌&&◌, Option, Some, None, MatchOption, is_none, List, leb, length, get_or}
use Rattle.std.proofs.Common.{sym, arith}
use borrow.Author.Tests.{leb-true, not-false, le-leb, lt-leb}
use Rattle.bounded.specs.Tests.{and-true}
use Rattle.bounded.specs.Least.{least_from, least_before}
use Rattle.edf.specs.Demand.{TaskSet, Lawful}
use Rattle.table.specs.declared.rows.Task.{Task}

-- the longest time that a row may name, and the last tick that an opinion looks at
abbrev pub horizon : ℕ
horizon = 1000000

-- a table is a slice of numbers, three to a row: C, T, D
unfoldable pub tasks_of : List ℕ → TaskSet
tasks_of l = record {
  rows = length l / 3;
  C = λ i. get_or l (3 * i) 0;
  T = λ i. get_or l (3 * i + 1) 0;
  D = λ i. get_or l (3 * i + 2) 0;
}

-- each row: 1 ≤ C ≤ D ≤ T ≤ 1,000,000
unfoldable pub row_rule : TaskSet → ℕ → Bool
row_rule τ i = leb 1 (τ.C i) && leb (τ.C i) (τ.D i) && leb (τ.D i) (τ.T i) && leb (τ.T i) horizon

unfoldable pub broken : TaskSet → ℕ → Bool
broken τ i = not (row_rule τ i)

-- the first row that breaks its rule, or the number of rows where none does
unfoldable pub first_broken_lem : TaskSet → ℕ
first_broken_lem τ = least_from (broken τ) 0 τ.rows

-- r is the first row that breaks its rule, if there is one
abbrev pub FirstBroken : TaskSet → Option ℕ → Type 0
FirstBroken τ r = MatchOption r (τ.rows ≡ first_broken_lem τ) (λ i. (i ≡ first_broken_lem τ) × (i < τ.rows))

pub none_broken : (τ : TaskSet) (r : Option ℕ) → FirstBroken τ r → is_none r ≡ leb τ.rows (first_broken_lem τ)
none_broken τ None f = sym (le-leb τ.rows (first_broken_lem τ) (omega arith))
none_broken τ (Some i) f = sym (lt-leb τ.rows (first_broken_lem τ) (omega (arith, f.0, f.1)))

-- ---- what the code reads

-- k is row i
pub record Row (τ : TaskSet) (i : ℕ) (k : Task) : Type 0 where
  pub run : k.run ≡ τ.C i
  pub period : k.period ≡ τ.T i
  pub deadline : k.deadline ≡ τ.D i

pub row_is : (l : List ℕ) (i a b c : ℕ) → a ≡ get_or l (3 * i) 0 → b ≡ get_or l (3 * i + 1) 0 → c ≡ get_or l (3 * i + 2) 0 → Row (tasks_of l) i (record { run = a; period = b; deadline = c })
unfolding tasks_of
row_is l i a b c p q r = record { run = p; period = q; deadline = r }

-- ---- a table of 1 to 16 rows that keep their rule

pub record Rule (τ : TaskSet) (i : ℕ) : Type 0 where
  pub cost : 1 ≤ τ.C i
  pub fits : τ.C i ≤ τ.D i
  pub apart : τ.D i ≤ τ.T i
  pub limit : τ.T i ≤ horizon

-- k is row i, and keeps the rule
pub record FitRow (τ : TaskSet) (i : ℕ) (k : Task) : Type 0 where
  pub row : Row τ i k
  pub rule : Rule τ i

pub record Fit (τ : TaskSet) : Type 0 where
  pub some : 1 ≤ τ.rows
  pub few : τ.rows ≤ 16
  pub row : (i : ℕ) → i < τ.rows → Rule τ i

pub fit_row : (τ : TaskSet) (i : ℕ) (k : Task) → Fit τ → i < τ.rows → Row τ i k → FitRow τ i k
fit_row τ i k fit l r = record { row = r; rule = fit.row i l }

pub run_fits : (τ : TaskSet) (i : ℕ) (k : Task) → FitRow τ i k → k.run ≤ k.deadline
run_fits τ i k f = let r = f.row in let u = f.rule in omega arith

-- a row that is not broken keeps its rule
pub rule_of : (τ : TaskSet) (i : ℕ) → broken τ i ≡ false → Rule τ i
unfolding broken row_rule
rule_of τ i e =
    let all = not-false (row_rule τ i) e in
    let ab = and-true (leb 1 (τ.C i) && leb (τ.C i) (τ.D i) && leb (τ.D i) (τ.T i)) (leb (τ.T i) horizon) all in
    let bc = and-true (leb 1 (τ.C i) && leb (τ.C i) (τ.D i)) (leb (τ.D i) (τ.T i)) ab.0 in
    let cd = and-true (leb 1 (τ.C i)) (leb (τ.C i) (τ.D i)) bc.0 in
    record { cost = leb-true _ _ cd.0; fits = leb-true _ _ cd.1; apart = leb-true _ _ bc.1; limit = leb-true _ _ ab.1 }

pub fit_of : (τ : TaskSet) → 1 ≤ τ.rows → τ.rows ≤ 16 → τ.rows ≤ first_broken_lem τ → Fit τ
unfolding first_broken_lem
fit_of τ some few none =
    record { some = some; few = few; row = λ i l. rule_of τ i (least_before (broken τ) 0 τ.rows i (omega arith) (omega arith)) }

pub fit_lawful : (τ : TaskSet) → Fit τ → Lawful τ
fit_lawful τ fit i l = let r = fit.row i l in record { cost = r.cost; fits = r.fits; apart = r.apart }
