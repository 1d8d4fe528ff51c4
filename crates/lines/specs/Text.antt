-- The lines of the output (docs/SPECIFICATION.md §8.3). Assumes nothing.
use Rattle.std.specs.Prelude.{ℕ, ◌+◌, ◌≤◌, ◌≡◌, List, [], ◌∷◌, ◌++◌, length}
use Rattle.std.proofs.Common.{arith, length-append}
use Rattle.decimal.specs.Decimal.{decimal}
use Rattle.decimal.specs.Buffer.{Wrote, wrote_more}

-- a number and the byte that ends its field: a tab, 9, or a newline, 10
abbrev pub field_text : ℕ → ℕ → List ℕ
field_text n last = decimal n ++ last ∷ []

-- clock after the call, letter, number, and the first value
abbrev pub head_text : ℕ → ℕ → ℕ → ℕ → List ℕ
head_text clock letter number first = field_text clock 9 ++ (letter ∷ 9 ∷ []) ++ field_text number 9 ++ field_text first 9

-- a whole line, with the second value
unfoldable pub line_text : ℕ → ℕ → ℕ → ℕ → ℕ → List ℕ
line_text clock letter number first second = head_text clock letter number first ++ field_text second 10

-- ---- the code

pub letter_is : (letter : ℕ) (d e f : List ℕ) (at p q : ℕ) → at + 2 ≤ length d → Wrote 1 (letter ∷ []) d e at p → Wrote 1 (9 ∷ []) e f p q
    → Wrote 2 (letter ∷ 9 ∷ []) d f at q
letter_is letter d e f at p q h v w = wrote_more 1 1 (letter ∷ []) (9 ∷ []) d e f at p q (omega arith) v w

module _ (clock letter number first : ℕ) (d : List ℕ) (at : ℕ) where
  pub head_is : (e f g h : List ℕ) (p q r s : ℕ) → at + 65 ≤ length d → Wrote 21 (field_text clock 9) d e at p → Wrote 2 (letter ∷ 9 ∷ []) e f p q
      → Wrote 21 (field_text number 9) f g q r → Wrote 21 (field_text first 9) g h r s → Wrote 65 (head_text clock letter number first) d h at s
  head_is e f g h p q r s l a b c z =
      let x = wrote_more 21 2 (field_text clock 9) (letter ∷ 9 ∷ []) d e f at p q (omega arith) a b in
      let y = wrote_more 23 21 (field_text clock 9 ++ (letter ∷ 9 ∷ [])) (field_text number 9) d f g at q r (omega (arith, x.short)) x c in
      wrote_more 44 21 (field_text clock 9 ++ (letter ∷ 9 ∷ []) ++ field_text number 9) (field_text first 9) d g h at r s (omega (arith, y.short)) y z

  pub line_is : (second : ℕ) (e f : List ℕ) (p q : ℕ) → at + 86 ≤ length d → Wrote 65 (head_text clock letter number first) d e at p
      → Wrote 21 (field_text second 10) e f p q → Wrote 86 (line_text clock letter number first second) d f at q
  unfolding line_text
  line_is second e f p q l v w = wrote_more 65 21 (head_text clock letter number first) (field_text second 10) d e f at p q (omega (arith, v.short)) v w

-- four tabs, a letter and a newline besides the numbers
pub line_length : (clock letter number first second : ℕ)
    → length (line_text clock letter number first second)
    ≡ length (decimal clock) + length (decimal number) + length (decimal first) + length (decimal second) + 6
unfolding line_text
line_length clock letter number first second = simp length-append (omega arith)
