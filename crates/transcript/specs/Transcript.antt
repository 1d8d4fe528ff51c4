-- The whole of what the program writes (docs/SPECIFICATION.md §8.4). Assumes nothing.
use Rattle.std.specs.Prelude.{ℕ, zero, suc, ◌/◌, cond, List, [], ◌∷◌, ◌++◌, eqb, length, take}
use Rattle.lines.specs.declared.read.Line.{Line}
use Rattle.lines.specs.declared.read.Line.TheVariants.{Row, Word, Call, Empty, Unreadable}
use Rattle.lines.specs.Lines.{lines_of}
use Rattle.table.specs.Verdict.{opinion_of}
use Rattle.report.specs.Text.{opinion_text}
use Rattle.report.specs.Whole.{room_in, Filled}
use Rattle.session.specs.Start.{session_of}
use Rattle.transcript.specs.Step.{calls_text}

-- how many bytes are read; any beyond are unread
abbrev pub input_limit : ℕ
input_limit = 65536

-- how many rows a table may have
abbrev pub row_limit : ℕ
row_limit = 16

-- the rows of the table: the `T` lines before any other line, k at most
abbrev pub rows_in : ℕ → List Line → List ℕ
rows_in zero l = []
rows_in (suc k) [] = []
rows_in (suc k) (Row c t d ∷ l) = c ∷ t ∷ d ∷ rows_in k l
rows_in (suc k) (Word w ∷ l) = []
rows_in (suc k) (Call c ∷ l) = []
rows_in (suc k) (Empty ∷ l) = []
rows_in (suc k) (Unreadable ∷ l) = []

-- the lines after them
abbrev pub after_rows : ℕ → List Line → List Line
after_rows zero l = l
after_rows (suc k) [] = []
after_rows (suc k) (Row c t d ∷ l) = after_rows k l
after_rows (suc k) (Word w ∷ l) = Word w ∷ l
after_rows (suc k) (Call c ∷ l) = Call c ∷ l
after_rows (suc k) (Empty ∷ l) = Empty ∷ l
after_rows (suc k) (Unreadable ∷ l) = Unreadable ∷ l

-- the table, then the calls, from the line after the rows on; a refused table ends the output
unfoldable pub printed_of : List Line → List ℕ
printed_of l =
    opinion_text (opinion_of (rows_in row_limit l))
    ++ cond (eqb (opinion_of (rows_in row_limit l)).number 0)
    (calls_text (session_of (rows_in row_limit l)) [] (suc (length (rows_in row_limit l) / 3)) (after_rows row_limit l)) []

-- the output for an input
unfoldable pub output_of : List ℕ → List ℕ
output_of input = printed_of (lines_of (take input_limit input))

-- a buffer of this length holds every output for n bytes of input: 22 bytes for each of them that is read, 86 for the line
-- `M`, 87 for each of 16 lines `B`, and 86 for a line `?`
abbrev pub room_for : ℕ → ℕ
room_for n = room_in 22 input_limit n

-- the contract of `transcribe`. No output has length 0 (`zero_short` in Empty.antt).
abbrev pub Transcribed : List ℕ → List ℕ → List ℕ → ℕ → Type 0
Transcribed input before after r = Filled (room_for (length input)) (output_of input) before after r
