-- V of each row, the inversion budget, and which rows are brittle (docs/SPECIFICATION.md §2.2, §3.1). Assumes nothing.
use Rattle.std.specs.Prelude.{ℕ, suc, ◌+◌, ◌≤◌, ◌<◌, ◌≡◌, refl, Bool, true, false, not, ◌&&◌, ◌||◌, List, ℤ, pos, ◌-ℤ◌, get_or, set, replicate}
use Rattle.std.proofs.Common.{sym, ap, ◌∙◌, arith, add-one, ltb-true, ltb-false}
use Rattle.std.proofs.lemmas.List.{length-replicate}
use Rattle.std.proofs.lemmas.Bool.{not-true}
use Rattle.bounded.specs.Fold.{fold_to, put_at}
use Rattle.bounded.specs.All.{all_to, all_at}
use Rattle.bounded.specs.Signed.{difference, negative, difference_negative, difference_rest}
use Rattle.edf.specs.Demand.{TaskSet, interference}
use Rattle.edf.specs.Response.{response_of}
use Rattle.table.specs.declared.rows.Task.{Task}
use Rattle.table.specs.declared.budgets.Budgets.{Budgets}
use Rattle.table.specs.Rows.{Fit, FitRow}
use Rattle.bounded.specs.Within.{Within}

-- V of row i: D − C − the sum, over every other row j, of C of j times (D of i divided by T of j, rounded up)
unfoldable pub budget_of : TaskSet → ℕ → ℤ
budget_of τ i = pos (τ.D i) -ℤ pos (τ.C i) -ℤ pos (interference τ i (τ.D i))

-- row i is brittle: its V is negative
unfoldable pub brittle : TaskSet → ℕ → Bool
brittle τ i = negative (budget_of τ i)

-- none of the first n rows is brittle
unfoldable pub loose_to : TaskSet → ℕ → Bool
loose_to τ n = all_to (λ i. not (brittle τ i)) n

-- loose: no V is negative
unfoldable pub loose : TaskSet → Bool
loose τ = loose_to τ τ.rows

-- some of the first n rows is not brittle
unfoldable pub firm_to : TaskSet → ℕ → Bool
firm_to τ n = not (all_to (brittle τ) n)

-- some V is not negative
unfoldable pub firm : TaskSet → Bool
firm τ = firm_to τ τ.rows

-- the first n rows' V in their places, and 0 in the others of 16
unfoldable pub values_to : TaskSet → ℕ → List ℤ
values_to τ n = fold_to (λ v i. set v i (budget_of τ i)) (replicate 16 (pos 0)) n

-- each row's V
unfoldable pub values_of : TaskSet → List ℤ
values_of τ = values_to τ τ.rows

-- ---- what the code computes

-- which of the first n rows are brittle, in their places, and false in the others of 16
unfoldable pub marks_to : TaskSet → ℕ → List Bool
marks_to τ n = fold_to (λ v i. set v i (brittle τ i)) (replicate 16 false) n

unfoldable pub marks_of : TaskSet → List Bool
marks_of τ = marks_to τ τ.rows

unfoldable pub budgets_of : TaskSet → Budgets
budgets_of τ = record { values = values_of τ; brittle = marks_of τ; loose = loose τ; firm = firm τ }

-- w is what the machine reads back of the signed number v
pub budget_is : (τ : TaskSet) (i s : ℕ) (k : Task) (v w : ℤ) → FitRow τ i k → Within 16000000000000 (interference τ i k.deadline) s → w ≡ v → v ≡ difference k.deadline k.run s → w ≡ budget_of τ i
unfolding budget_of
budget_is τ i s k v w f h e d = let r = f.row in e ∙ d ∙ rw (h.is, r.deadline, r.run)

-- ---- the loop over the rows

abbrev pub budgets_to : TaskSet → ℕ → Budgets
budgets_to τ n = record { values = values_to τ n; brittle = marks_to τ n; loose = loose_to τ n; firm = firm_to τ n }

pub budgets_start : (τ : TaskSet) → record { values = replicate 16 (pos 0); brittle = replicate 16 false; loose = true; firm = false } ≡ budgets_to τ 0
unfolding values_to marks_to loose_to firm_to fold_to all_to
budgets_start τ = refl

not_and : (a b : Bool) → (not a || not b) ≡ not (a && b)
not_and true b = refl
not_and false b = refl

-- w is what the machine reads back of V
pub budgets_next : (τ : TaskSet) (b : Budgets) (i : ℕ) (v w : ℤ) (m x y : Bool) → b ≡ budgets_to τ i → w ≡ v → v ≡ budget_of τ i → m ≡ negative w
    → x ≡ (b.loose && not m) → y ≡ (b.firm || not m)
    → record { values = set b.values i w; brittle = set b.brittle i m; loose = x; firm = y } ≡ budgets_to τ (i + 1)
unfolding values_to marks_to loose_to firm_to fold_to all_to brittle
budgets_next τ b i v w m x y e r h n p q = rw (add-one, p, q, n, r, h, e) (ap (λ (z : Bool). record {
  values = values_to τ (suc i);
  brittle = marks_to τ (suc i);
  loose = loose_to τ (suc i);
  firm = z;
}) (not_and (all_to (brittle τ) i) (brittle τ i)))

pub budgets_done : (τ : TaskSet) (b : Budgets) (i n : ℕ) → b ≡ budgets_to τ i → i ≤ n → n ≤ i → n ≡ τ.rows → b ≡ budgets_of τ
unfolding budgets_of loose firm values_of marks_of
budgets_done τ b i n e l h k = let j : i ≡ τ.rows = omega arith in e ∙ ap (budgets_to τ) j

pub ruleset budgets_laws = (budgets_start, budgets_next, budgets_done)

-- V of row i stands in place i
pub values_at : (τ : TaskSet) (i : ℕ) → Fit τ → i < τ.rows → get_or (values_of τ) i (pos 0) ≡ budget_of τ i
unfolding values_of values_to
values_at τ i fit l =
    put_at (budget_of τ) (replicate 16 (pos 0)) τ.rows (pos 0) (omega (arith, fit.few, length-replicate 16 (pos 0))) i l

-- and whether it is brittle
pub marks_at : (τ : TaskSet) (i : ℕ) → Fit τ → i < τ.rows → get_or (marks_of τ) i false ≡ brittle τ i
unfolding marks_of marks_to
marks_at τ i fit l = put_at (brittle τ) (replicate 16 false) τ.rows false (omega (arith, fit.few, length-replicate 16 false)) i l

-- D of a row that is not brittle has room for C and what the other rows may ask for
pub firm_row : (τ : TaskSet) (i : ℕ) → brittle τ i ≡ false → τ.C i + interference τ i (τ.D i) ≤ τ.D i
unfolding brittle budget_of
firm_row τ i e = ltb-false (τ.D i) _ (sym (difference_negative (τ.D i) (τ.C i) (interference τ i (τ.D i))) ∙ e)

-- and that of a brittle one has not
pub brittle_row : (τ : TaskSet) (i : ℕ) → brittle τ i ≡ true → τ.D i < τ.C i + interference τ i (τ.D i)
unfolding brittle budget_of
brittle_row τ i e = ltb-true (τ.D i) _ (sym (difference_negative (τ.D i) (τ.C i) (interference τ i (τ.D i))) ∙ e)

-- no row of a loose table is brittle
pub loose_firm : (τ : TaskSet) → loose τ ≡ true → (i : ℕ) → i < τ.rows → brittle τ i ≡ false
unfolding loose loose_to
loose_firm τ e i l = not-true (brittle τ i) (all_at (λ i. not (brittle τ i)) τ.rows e i l)

-- D − V is C and what the other rows can ask for
pub response_is : (τ : TaskSet) (i : ℕ) → pos (response_of τ i) ≡ pos (τ.D i) -ℤ budget_of τ i
unfolding response_of budget_of
response_is τ i = sym (difference_rest (τ.D i) (τ.C i) (interference τ i (τ.D i)))
