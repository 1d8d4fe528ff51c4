-- The whole of what `planner` prints (docs/SPECIFICATION.md §14.4). Definitions only. Assumes nothing.
use Rattle.std.specs.Prelude.{ℕ, suc, ◌/◌, cond, List, [], ◌∷◌, ◌++◌, eqb, length, take}
use Rattle.edf.specs.Demand.{TaskSet}
use Rattle.lines.specs.declared.read.Line.{Line}
use Rattle.lines.specs.declared.read.Line.TheVariants.{Row, Word, Call, Empty, Unreadable}
use Rattle.lines.specs.Lines.{lines_of}
use Rattle.table.specs.Rows.{tasks_of}
use Rattle.table.specs.Verdict.{opinion_of}
use Rattle.report.specs.Text.{opinion_text}
use Rattle.report.specs.Whole.{room_from, Filled}
use Rattle.planning.specs.Planning.{costs_text, cuts_text}
use Rattle.session.specs.declared.Session.{Session}
use Rattle.session.specs.Start.{session_of}
use Rattle.guarantee.specs.Ledger.{Ledger, empty, kept}
use Rattle.guarantee.specs.History.{counts_after}
use Rattle.guarantee.specs.After.{event_of}
use Rattle.transcript.specs.Step.{step_of}
use Rattle.transcript.specs.Kept.{as_call}
use Rattle.transcript.specs.Transcript.{input_limit, row_limit, rows_in, after_rows}
use Rattle.response.specs.Jobs.{Item, unread, items_text, ended_items, pending_items}

-- ---- the table

-- what is printed of the table besides the opinion: the costs of an admitted one, the cuts of one refused with 3
unfoldable pub besides_text : List ℕ → List ℕ
besides_text l =
    cond (eqb (opinion_of l).number 0) (costs_text (tasks_of l))
    (cond (eqb (opinion_of l).number 3) (cuts_text (tasks_of l) (opinion_of l).first) [])

-- ---- the calls

-- what a line leaves, beside the session and the words, and what it prints
pub record Noted : Type 0 where
  pub ledger : Ledger
  pub counts : List ℕ
  pub items : List Item

-- of a call the event is noted; a line that is none ends the reading if it does for `shuffle`
unfoldable pub note_of : TaskSet → Ledger → List ℕ → Session → List ℕ → ℕ → Line → Noted
note_of τ g cs s q n (Call c) = record {
  ledger = kept τ g (event_of s (as_call q c));
  counts = counts_after τ g cs (event_of s (as_call q c));
  items = ended_items τ (kept τ g (event_of s (as_call q c))) (counts_after τ g cs (event_of s (as_call q c))) (event_of s (as_call q c));
}
note_of τ g cs s q n (Row c t d) = record { ledger = g; counts = cs; items = unread s.clock n ∷ [] }
note_of τ g cs s q n (Word w) =
    record { ledger = g; counts = cs; items = cond (step_of s q n (Word w)).ends (unread s.clock n ∷ []) [] }
note_of τ g cs s q n Empty = record { ledger = g; counts = cs; items = unread s.clock n ∷ [] }
note_of τ g cs s q n Unreadable = record { ledger = g; counts = cs; items = unread s.clock n ∷ [] }

-- the lines after the table, from line number n on; then the jobs that still wait
unfoldable pub items_from : TaskSet → Ledger → List ℕ → Session → List ℕ → ℕ → List Line → List Item
items_from τ g cs s q n [] = pending_items τ g cs
items_from τ g cs s q n (x ∷ l) =
    (note_of τ g cs s q n x).items
    ++ cond (step_of s q n x).ends (pending_items τ (note_of τ g cs s q n x).ledger (note_of τ g cs s q n x).counts)
    (items_from τ (note_of τ g cs s q n x).ledger (note_of τ g cs s q n x).counts (step_of s q n x).session (step_of s q n x).queue (suc n) l)

-- ---- the whole

-- what is printed after the table, from the line after the rows on; nothing where the table is refused
unfoldable pub items_of : List Line → List Item
items_of l =
    cond (eqb (opinion_of (rows_in row_limit l)).number 0)
    (items_from (tasks_of (rows_in row_limit l)) empty [] (session_of (rows_in row_limit l)) [] (suc (length (rows_in row_limit l) / 3)) (after_rows row_limit l)) []

unfoldable pub printed_of : List Line → List ℕ
printed_of l = opinion_text (opinion_of (rows_in row_limit l)) ++ besides_text (rows_in row_limit l) ++ items_text (items_of l)

-- the output for an input
unfoldable pub planned_of : List ℕ → List ℕ
planned_of input = printed_of (lines_of (take input_limit input))

-- a buffer of this length holds every output for n bytes of input: 64 bytes for each of them that is read, 1,478 for the opinion, 27,392 for
-- the costs, 86 for a line `?` and 2,048 for 16 jobs that wait
abbrev pub room_for : ℕ → ℕ
room_for n = room_from 31004 64 input_limit n

-- the contract of `plan`. No output has length 0 (`NeverEmpty` in Statement.antt).
abbrev pub Planned : List ℕ → List ℕ → List ℕ → ℕ → Type 0
Planned input before after r = Filled (room_for (length input)) (planned_of input) before after r
