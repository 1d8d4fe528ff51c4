-- No line prints more than 11 bytes for each byte that it takes; a table's rows pay for what is printed where it ends. Assumes
-- nothing.
use Rattle.std.specs.Prelude.{ℕ, ◌+◌, ◌*◌, ◌≤◌, ◌<◌, ◌≡◌, refl, List, [], ◌∷◌}
use Rattle.std.proofs.Math.Logic.{dite}
use native.Mathlib.Omega.{arith}
use Rattle.std.proofs.Math.Decide.{ℕ_discrete}
use Rattle.std.proofs.Math.ListN.{length}
use Rattle.std.proofs.Common.{length-append, eq-eqb, ne_eqb}
use Rattle.decimal.specs.Decimal.{decimal_short}
use Rattle.lines.specs.Text.{line_text, line_length}
use Rattle.table.specs.Rows.{tasks_of}
use Rattle.table.specs.Verdict.{bad_length, opinion_of}
use Rattle.table.specs.Statement.{HasKind, is_loose, is_tight, is_mixed}
use Rattle.table.proofs.TheoremsLaws.{kind_means, opinion_admitted}
use Rattle.report.specs.Text.{opinion_text, budgets_text}
use Rattle.report.specs.Put.{Reported}

-- an unreadable line's number has six digits at most
pub unread_short : (n : ℕ) → n < 1000000 → length (line_text 0 63 13 n 0) ≤ 16
unread_short n h =
    omega (
      arith,
      line_length 0 63 13 n 0,
      decimal_short 0 0 (omega arith),
      decimal_short 1 13 (omega arith),
      decimal_short 5 n (omega arith),
    )

-- the table without rows is refused with 1, length 0
none_short : length (opinion_text (opinion_of [])) ≤ 10
unfolding opinion_text opinion_of bad_length
none_short = omega (arith, line_length 0 77 1 0 0, decimal_short 0 0 (omega arith), decimal_short 0 1 (omega arith), length-append (line_text 0 77 1 0 0) [])

kind_small : (l : List ℕ) → (opinion_of l).number ≡ 0 → (opinion_of l).first < 10
kind_small l e = by (kind_means l e) refl
  where
    by : {k : ℕ} → HasKind (tasks_of l) k → (opinion_of l).first ≡ k → (opinion_of l).first < 10
    by (is_loose h) f = omega arith
    by (is_tight h) f = omega arith
    by (is_mixed i j a b c d) f = omega arith

module _ (l : List ℕ) (k : ℕ) (size : length l ≡ 3 * k) (few : k ≤ 16) where
  -- an admitted table's kind has one digit, and its number of rows two at most
  admitted_short : (opinion_of l).number ≡ 0 → length (line_text 0 77 (opinion_of l).number (opinion_of l).first (opinion_of l).second) ≤ 11
  unfolding tasks_of
  admitted_short e =
      omega (
        arith,
        line_length 0 77 (opinion_of l).number (opinion_of l).first (opinion_of l).second,
        decimal_short 0 0 (omega arith),
        decimal_short 0 (opinion_of l).number (omega arith),
        decimal_short 0 (opinion_of l).first (omega (arith, kind_small l e)),
        decimal_short 1 (opinion_of l).second (omega (arith, opinion_admitted l e)),
      )

  -- 88 bytes for each row
  some_short : 1 ≤ k → (before after : List ℕ) (at r : ℕ) → Reported (opinion_of l) k before after at r → length (opinion_text (opinion_of l)) ≤ 10 + 88 * k
  unfolding opinion_text tasks_of
  some_short h before after at r w =
      dite (ℕ_discrete (opinion_of l).number 0)
      (λ e.
      let rows : (opinion_of l).second ≡ k = omega (arith, opinion_admitted l e) in
      let rest : length (budgets_text (opinion_of l).budgets (opinion_of l).second) ≤ 87 * k = rw rows (w.rest e) in
      simp (eq-eqb (opinion_of l).number 0 e, length-append) (omega (arith, admitted_short e)))
      (λ ne. simp (ne_eqb (opinion_of l).number 0 ne, length-append) (omega (arith, w.first)))

nil_of : (l : List ℕ) → length l ≡ 0 → l ≡ []
nil_of [] h = refl
nil_of (x ∷ l) h = absurd (omega arith)

pub opinion_short : (l : List ℕ) (k : ℕ) → length l ≡ 3 * k → k ≤ 16 → (before after : List ℕ) (at r : ℕ) → Reported (opinion_of l) k before after at r
    → length (opinion_text (opinion_of l)) ≤ 10 + 88 * k
opinion_short l k size few before after at r w =
    dite (ℕ_discrete k 0)
    (λ z. rw (nil_of l (omega arith)) (omega (arith, none_short)))
    (λ n. some_short l k size few (omega arith) before after at r w)
