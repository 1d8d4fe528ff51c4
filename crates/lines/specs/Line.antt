-- Which lines are readable, and what they say (docs/SPECIFICATION.md §8.2). Assumes nothing.
use Rattle.std.specs.Prelude.{Option, Some, None, ℕ, cond, List, [], ◌∷◌, eqb}
use Rattle.decimal.specs.Number.{number_of}
use Rattle.lines.specs.declared.read.Call.TheVariants.{Arrive, Choose, Advance, Finish}
use Rattle.lines.specs.declared.read.Line.{Line}
use Rattle.lines.specs.declared.read.Line.TheVariants.{Row, Word, Call, Empty, Unreadable}
use Rattle.lines.specs.Parted.{parted}

-- the letter that a field is; 0 where it is not one byte
abbrev pub letter_of : List ℕ → ℕ
letter_of [] = 0
letter_of (c ∷ []) = c
letter_of (c ∷ d ∷ l) = 0

-- a letter alone: `G` or `F`
unfoldable pub bare_of : ℕ → Line
bare_of c = cond (eqb c 71) (Call Choose) (cond (eqb c 70) (Call Finish) Unreadable)

-- a letter and a number: `W`, `A` or `R`
unfoldable pub single_of_lem : ℕ → ℕ → Line
single_of_lem c n = cond (eqb c 87) (Word n) (cond (eqb c 65) (Call (Arrive n)) (cond (eqb c 82) (Call (Advance n)) Unreadable))

-- a letter and three numbers: `T`
unfoldable pub triple_of : ℕ → ℕ → ℕ → ℕ → Line
triple_of c x y z = cond (eqb c 84) (Row x y z) Unreadable

-- a field that is no number makes the line unreadable
abbrev pub given : (ℕ → Line) → Option ℕ → Line
given f (Some n) = f n
given f None = Unreadable

-- three of them
abbrev pub given_three : (ℕ → ℕ → ℕ → Line) → Option ℕ → Option ℕ → Option ℕ → Line
given_three f a b c = given (λ x. given (λ y. given (λ z. f x y z) c) b) a

-- a line by its fields
abbrev pub line_in : List (List ℕ) → Line
line_in [] = Unreadable
line_in (c ∷ []) = bare_of (letter_of c)
line_in (c ∷ p ∷ []) = given (single_of_lem (letter_of c)) (number_of p)
line_in (c ∷ p ∷ q ∷ []) = Unreadable
line_in (c ∷ p ∷ q ∷ r ∷ []) = given_three (triple_of (letter_of c)) (number_of p) (number_of q) (number_of r)
line_in (c ∷ p ∷ q ∷ r ∷ s ∷ l) = Unreadable

-- a line without its newline; its fields are parted by one tab
unfoldable pub line_of : List ℕ → Line
line_of [] = Empty
line_of (b ∷ l) = line_in (parted 9 (b ∷ l))
