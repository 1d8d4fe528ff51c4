-- The trial of a seed, line by line and as text, and what `load` prints (docs/WORKLOAD.md). Definitions only. Assumes nothing.
use Rattle.std.specs.Prelude.{Option, Some, None, ℕ, zero, suc, ◌-◌, min, Bool, true, false, cond, List, [], ◌∷◌, ◌++◌, nat_le, nat_lt}
use Rattle.bounded.specs.Fold.{fold_to}
use Rattle.bounded.specs.Least.{least_from}
use Rattle.decimal.specs.Number.{number_of}
use Rattle.lines.specs.declared.read.Call.{Call as CallOf}
use Rattle.lines.specs.declared.read.Call.TheVariants.{Arrive, Choose, Advance, Finish}
use Rattle.lines.specs.declared.read.Line.{Line}
use Rattle.lines.specs.declared.read.Line.TheVariants.{Row, Word, Call, Empty, Unreadable}
use Rattle.lines.specs.Parted.{parted}
use Rattle.lines.specs.Input.{input_text}
use Rattle.report.specs.Rows.{row_lines}
use Rattle.table.specs.Rows.{horizon}
use Rattle.session.specs.declared.Session.{Session}
use Rattle.session.specs.Reading.{job_at}
use Rattle.session.specs.Start.{session_of}
use Rattle.transcript.specs.Step.{step_of}
use Rattle.workload.specs.Numbers.{next_of}
use Rattle.workload.specs.Table.{row_count, rows_of_seed, table_of}

-- how many lines a trial has
abbrev pub trial_lines : ℕ
trial_lines = 500

-- what the lines so far have led to: `shuffle`'s session and queued words, the last number, and whether a word was queued since
-- the last `G`
pub record Trial : Type 0 where
  pub session : Session
  pub queue : List ℕ
  pub number : ℕ
  pub given : Bool

-- the lowest row that may arrive now; the number of rows where none may
unfoldable pub ready_row_lem : Session → ℕ
ready_row_lem s = least_from (λ i. nat_le (job_at s i).next s.clock) 0 s.count

unfoldable pub ready : Session → Bool
ready s = nat_lt (ready_row_lem s) s.count

-- that row, where one may
unfoldable pub row_ready : Session → Option ℕ
row_ready s = cond (ready s) (Some (ready_row_lem s)) None

-- the ticks from the clock to the least of all rows' earliest next arrivals, which is never further ahead than the horizon
unfoldable pub until_next_lem : Session → ℕ
until_next_lem s = fold_to (λ m i. min m ((job_at s i).next - s.clock)) horizon s.count

-- the next line, for a session, the last number, and whether a word was queued since the last `G`: by the first of the four rules
-- whose condition holds
unfoldable pub line_by_lem : Session → ℕ → Bool → Line
line_by_lem s number given =
    cond (ready s) (Call (Arrive (ready_row_lem s)))
    (cond (nat_lt 0 s.span) (Call (Advance (min s.span (until_next_lem s))))
    (cond given (Call Choose) (Word (next_of number))))

abbrev pub line_for : Trial → Line
line_for x = line_by_lem x.session x.number x.given

-- the last number after a line
abbrev pub number_after : ℕ → Line → ℕ
number_after x (Row c t d) = x
number_after x (Word w) = w
number_after x (Call c) = x
number_after x Empty = x
number_after x Unreadable = x

-- whether a word was queued since the last `G`, after a call
abbrev pub given_after_call : Bool → CallOf → Bool
given_after_call b (Arrive row) = b
given_after_call b Choose = false
given_after_call b (Advance n) = b
given_after_call b Finish = b

-- and after a line
abbrev pub given_after : Bool → Line → Bool
given_after b (Row c t d) = b
given_after b (Word w) = true
given_after b (Call c) = given_after_call b c
given_after b Empty = b
given_after b Unreadable = b

-- `shuffle`'s own step makes the session and the queue; neither goes by the line's number, for which 0 stands here
unfoldable pub onward : Trial → Line → Trial
onward x y = record {
  session = (step_of x.session x.queue 0 y).session;
  queue = (step_of x.session x.queue 0 y).queue;
  number = number_after x.number y;
  given = given_after x.given y;
}

-- the next k lines
unfoldable pub lines_from : ℕ → Trial → List Line
lines_from zero x = []
lines_from (suc k) x = line_for x ∷ lines_from k (onward x (line_for x))

-- before the first line after the table
unfoldable pub trial_start : ℕ → Trial
trial_start seed = record { session = session_of (table_of seed); queue = []; number = seed; given = false }

-- the lines after the table
unfoldable pub call_lines : ℕ → List Line
call_lines seed = lines_from (trial_lines - row_count seed) (trial_start seed)

unfoldable pub trial_of : ℕ → List Line
trial_of seed = row_lines (rows_of_seed seed) ++ call_lines seed

-- THE TRIAL OF A SEED, AS TEXT
unfoldable pub text_of : ℕ → List ℕ
text_of seed = input_text (trial_of seed)

-- room for it: 65 bytes for each line
abbrev pub trial_room : ℕ
trial_room = 32500

-- ---- the program

-- the seed, by the parts before, between and after newlines: one line, and nothing after it
abbrev pub seed_in : List (List ℕ) → Option ℕ
seed_in [] = None
seed_in (p ∷ []) = None
seed_in (p ∷ [] ∷ []) = number_of p
seed_in (p ∷ (b ∷ q) ∷ []) = None
seed_in (p ∷ q ∷ r ∷ l) = None

unfoldable pub seed_of : List ℕ → Option ℕ
seed_of input = seed_in (parted 10 input)

-- nothing where there is no seed
abbrev pub printed_for : Option ℕ → List ℕ
printed_for (Some seed) = text_of seed
printed_for None = []

-- what `load` prints
unfoldable pub load_of : List ℕ → List ℕ
load_of input = printed_for (seed_of input)
