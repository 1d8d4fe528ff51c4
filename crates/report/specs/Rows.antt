-- Rows as lines and as numbers, to state what is printed of them. Assumes nothing.
use Rattle.std.specs.Prelude.{ℕ, ◌*◌, ◌≡◌, refl, List, [], ◌∷◌, ◌++◌, length}
use Rattle.std.proofs.Common.{arith}
use Rattle.lines.specs.declared.read.Line.{Line}
use Rattle.lines.specs.declared.read.Line.TheVariants.{Row}

-- their `T` lines
abbrev pub row_lines : List (ℕ × ℕ × ℕ) → List Line
row_lines [] = []
row_lines (r ∷ l) = Row r.0 r.1 r.2 ∷ row_lines l

-- their numbers, three to each
abbrev pub row_words : List (ℕ × ℕ × ℕ) → List ℕ
row_words [] = []
row_words (r ∷ l) = r.0 ∷ r.1 ∷ r.2 ∷ row_words l

-- ---- laws

pub lines_append : (l m : List (ℕ × ℕ × ℕ)) → row_lines (l ++ m) ≡ row_lines l ++ row_lines m
lines_append [] m = refl
lines_append (r ∷ l) m = rw (lines_append l m)

pub words_append : (l m : List (ℕ × ℕ × ℕ)) → row_words (l ++ m) ≡ row_words l ++ row_words m
words_append [] m = refl
words_append (r ∷ l) m = rw (words_append l m)

pub words_length : (l : List (ℕ × ℕ × ℕ)) → length (row_words l) ≡ 3 * length l
words_length [] = refl
words_length (r ∷ l) = omega (arith, words_length l)
