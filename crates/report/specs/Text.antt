-- What is printed of an opinion: the line `M` and, for each row of an admitted table, a line `B` (docs/SPECIFICATION.md §8.3).
-- Assumes nothing.
use Rattle.std.specs.Prelude.{ℕ, suc, cond, List, [], ◌∷◌, ◌++◌, eqb, ℤ, pos, negsuc, get_or}
use Rattle.decimal.specs.Decimal.{decimal}
use Rattle.decimal.specs.Joined.{join_to}
use Rattle.lines.specs.Text.{head_text, line_text}
use Rattle.table.specs.Verdict.{Opinion}

-- a number with its sign
abbrev pub signed_text : ℤ → List ℕ
signed_text (pos n) = decimal n
signed_text (negsuc n) = 45 ∷ decimal (suc n)

-- letter `B`: row and V
abbrev pub budget_text : ℕ → ℤ → List ℕ
budget_text i v = head_text 0 66 0 i ++ (signed_text v ++ 10 ∷ [])

-- one for each of n rows
unfoldable pub budgets_text : List ℤ → ℕ → List ℕ
budgets_text v n = join_to (λ i. budget_text i (get_or v i (pos 0))) n

-- letter `M`: kind and rows, or the refusal; then the budgets of an admitted table, whose second value is its rows
unfoldable pub opinion_text : Opinion → List ℕ
opinion_text a =
    line_text 0 77 a.number a.first a.second ++ cond (eqb a.number 0) (budgets_text a.budgets a.second) []
