-- What holds of the trial of every seed, as text (docs/WORKLOAD.md, docs/SPECIFICATION.md §12). `lines_of` and `output_of` are what
-- `shuffle` reads and prints by its contract. Statements only.
use Rattle.std.specs.Prelude.{Some, ◌≡◌, ℕ, ◌+◌, ◌≤◌, List, [], ◌∷◌, ◌++◌, length, take, ◌==◌}
use Rattle.bounded.specs.Tests.{gate}
use Rattle.edf.specs.Demand.{demand}
use Rattle.decimal.specs.Decimal.{decimal}
use Rattle.lines.specs.declared.read.Line.{Line}
use Rattle.lines.specs.declared.read.Line.TheVariants.{Row, Word, Call, Empty, Unreadable}
use Rattle.lines.specs.Parted.{parted}
use Rattle.lines.specs.Lines.{lines_of}
use Rattle.table.specs.Rows.{horizon, tasks_of}
use Rattle.table.specs.Verdict.{opinion_of}
use Rattle.transcript.specs.Step.{letter_of}
use Rattle.transcript.specs.Transcript.{input_limit, row_limit, rows_in, output_of}
use Rattle.workload.specs.Numbers.{numbers_from}
use Rattle.workload.specs.Table.{table_of}
use Rattle.workload.specs.Trial.{text_of, seed_of}

-- the lines that `shuffle` reads in the trial
abbrev pub lines_read : ℕ → List Line
lines_read seed = lines_of (text_of seed)

-- `shuffle` reads all of it
abbrev pub ReadWhole : Type 0
ReadWhole = (seed : ℕ) → length (text_of seed) ≤ input_limit

-- ---- EXACTLY 500 LINES, EACH OF WHICH CAN BE READ

abbrev pub Readable : List Line → Type 0
Readable [] = Unit
Readable (Row c t d ∷ l) = Readable l
Readable (Word w ∷ l) = Readable l
Readable (Call c ∷ l) = Readable l
Readable (Empty ∷ l) = ⊥
Readable (Unreadable ∷ l) = ⊥

abbrev pub FiveHundred : Type 0
FiveHundred = (seed : ℕ) → (length (lines_read seed) ≡ 500) × Readable (lines_read seed)

-- ---- THE TABLE IS ADMITTED, AND ITS DEMAND AT 1,000,000 IS AT LEAST 500,000

pub record Heavy (l : List ℕ) : Type 0 where
  pub admitted : (opinion_of l).number ≡ 0
  pub loose : (opinion_of l).first ≡ 1
  pub heavy : 500000 ≤ demand (tasks_of l) horizon

abbrev pub HeavyTable : Type 0
HeavyTable = (seed : ℕ) → (rows_in row_limit (lines_read seed) ≡ table_of seed) × Heavy (table_of seed)

-- ---- AT LEAST 20 LINES EACH OF `A`, `W`, `G` AND `R`, AND NONE OF `F`

-- a line's letter
abbrev pub letter_in : Line → ℕ
letter_in (Row c t d) = 84
letter_in (Word w) = 87
letter_in (Call c) = letter_of c
letter_in Empty = 0
letter_in Unreadable = 0

-- how many lines have this letter
unfoldable pub count_of : ℕ → List Line → ℕ
count_of letter [] = 0
count_of letter (x ∷ l) = gate (letter_in x == letter) 1 + count_of letter l

pub record Enough (l : List Line) : Type 0 where
  pub arrivals : 20 ≤ count_of 65 l
  pub words : 20 ≤ count_of 87 l
  pub choices : 20 ≤ count_of 71 l
  pub steps : 20 ≤ count_of 82 l
  pub finishes : count_of 70 l ≡ 0

abbrev pub EnoughEach : Type 0
EnoughEach = (seed : ℕ) → Enough (lines_read seed)

-- ---- EACH WORD IS THE NEXT NUMBER

-- the words of the `W` lines, in order
abbrev pub words_of : List Line → List ℕ
words_of [] = []
words_of (Row c t d ∷ l) = words_of l
words_of (Word w ∷ l) = w ∷ words_of l
words_of (Call c ∷ l) = words_of l
words_of (Empty ∷ l) = words_of l
words_of (Unreadable ∷ l) = words_of l

abbrev pub WordsInTurn : Type 0
WordsInTurn = (seed : ℕ) → words_of (lines_read seed) ≡ numbers_from seed (length (words_of (lines_read seed)))

-- ---- `shuffle` REFUSES NONE OF THE LINES

-- the third of a line's fields: its number, which is 0 if the call is accepted
abbrev pub third_field : List (List ℕ) → List ℕ
third_field [] = []
third_field (p ∷ []) = []
third_field (p ∷ q ∷ []) = []
third_field (p ∷ q ∷ r ∷ l) = r

-- of what is printed, by its parts between newlines: each line has the number 0, and nothing stands after the last newline
abbrev pub Unrefused : List (List ℕ) → Type 0
Unrefused [] = ⊥
Unrefused (p ∷ []) = p ≡ []
Unrefused (p ∷ q ∷ l) = (third_field (parted 9 p) ≡ decimal 0) × Unrefused (q ∷ l)

abbrev pub NoneRefused : Type 0
NoneRefused = (seed : ℕ) → Unrefused (parted 10 (output_of (text_of seed)))

-- ---- the program: A SEED IS ITS DIGITS AND A NEWLINE, AND NOTHING ELSE IS ONE

abbrev pub SeedRead : Type 0
SeedRead = (seed : ℕ) → seed ≤ 4294967295 → seed_of (decimal seed ++ 10 ∷ []) ≡ Some seed

abbrev pub OnlySeeds : Type 0
OnlySeeds = (input : List ℕ) (seed : ℕ) → seed_of input ≡ Some seed → (input ≡ decimal seed ++ 10 ∷ []) × (seed ≤ 4294967295)

-- the first 12 bytes of an input decide
abbrev pub TwelveDecide : Type 0
TwelveDecide = (input : List ℕ) (k : ℕ) → 12 ≤ k → seed_of (take k input) ≡ seed_of input
