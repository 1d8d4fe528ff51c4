-- The whole of what the program for many tables writes (docs/SPECIFICATION.md §8.6). Assumes nothing.
use Rattle.std.specs.Prelude.{ℕ, suc, Bool, true, false, cond, ◌||◌, List, [], ◌∷◌, ◌++◌, ltb, length, take}
use Rattle.lines.specs.declared.read.Line.{Line}
use Rattle.lines.specs.declared.read.Line.TheVariants.{Row, Word, Call, Empty, Unreadable}
use Rattle.lines.specs.Lines.{lines_of}
use Rattle.lines.specs.Text.{line_text}
use Rattle.table.specs.Verdict.{opinion_of}
use Rattle.report.specs.Text.{opinion_text}
use Rattle.report.specs.Whole.{room_in, Filled}

-- how many bytes are read; any beyond are unread
abbrev pub input_limit : ℕ
input_limit = 262144

-- a table as far as it was read: its rows, three numbers to each, and whether one of its lines was unreadable
pub record Draft : Type 0 where
  pub rows : List ℕ
  pub spoiled : Bool

abbrev pub no_draft : Draft
no_draft = record { rows = []; spoiled = false }

-- it has a line
abbrev pub begun : Draft → Bool
begun t = t.spoiled || ltb 0 (length t.rows)

-- what is printed where a table ends: the opinion on its rows, unless it is spoiled, and an empty line
unfoldable pub closing : Draft → List ℕ
closing t = cond t.spoiled [] (opinion_text (opinion_of t.rows)) ++ 10 ∷ []

-- what a line prints, and the table after it
pub record Step : Type 0 where
  pub text : List ℕ
  pub table : Draft

-- an unreadable line, number n from 1, spoils its table: letter `?` and number 13
abbrev pub unread : ℕ → Draft → Step
unread n t = record { text = line_text 0 63 13 n 0; table = record { rows = t.rows; spoiled = true } }

-- a row more
abbrev pub added : Draft → ℕ → ℕ → ℕ → Step
added t c p d = record { text = []; table = record { rows = t.rows ++ c ∷ p ∷ d ∷ []; spoiled = t.spoiled } }

-- one line; with 16 rows there, a row more is unreadable
unfoldable pub step_of : ℕ → Draft → Line → Step
step_of n t (Row c p d) = cond (ltb (length t.rows) 48) (added t c p d) (unread n t)
step_of n t (Word w) = unread n t
step_of n t (Call c) = unread n t
step_of n t Empty = record { text = closing t; table = no_draft }
step_of n t Unreadable = unread n t

-- the lines from number n on, where t is the table at hand; the end of the lines ends a table that has one
unfoldable pub answers_from : ℕ → Draft → List Line → List ℕ
answers_from n t [] = cond (begun t) (closing t) []
answers_from n t (x ∷ l) = (step_of n t x).text ++ answers_from (suc n) (step_of n t x).table l

-- the output for an input
unfoldable pub output_of : List ℕ → List ℕ
output_of input = answers_from 1 no_draft (lines_of (take input_limit input))

-- a buffer of this length holds every output for n bytes of input: 11 bytes for each of them that is read, the length of what is
-- printed of an empty line, and 1,564 for the last table
abbrev pub room_for : ℕ → ℕ
room_for n = room_in 11 input_limit n

-- the contract of `opinions`
abbrev pub Advised : List ℕ → List ℕ → List ℕ → ℕ → Type 0
Advised input before after r = Filled (room_for (length input)) (output_of input) before after r
