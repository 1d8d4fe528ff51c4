-- What is shown of the output of `planner` (docs/SPECIFICATION.md §14.4). Statements only. Assumes nothing.
use Rattle.std.specs.Prelude.{ℕ, suc, ◌/◌, ◌≤◌, ◌<◌, ◌≡◌, cond, List, [], ◌∷◌, length}
use Rattle.edf.specs.Demand.{TaskSet}
use Rattle.lines.specs.declared.read.Line.{Line}
use Rattle.table.specs.Rows.{tasks_of}
use Rattle.table.specs.Verdict.{opinion_of}
use Rattle.session.specs.declared.Session.{Session}
use Rattle.session.specs.Start.{session_of}
use Rattle.guarantee.specs.Ledger.{Ledger, empty}
use Rattle.transcript.specs.Step.{step_of}
use Rattle.transcript.specs.Transcript.{row_limit, rows_in, after_rows}
use Rattle.response.specs.Jobs.{Item, ended, pending, unread}
use Rattle.response.specs.Plan.{note_of, items_of, planned_of}

-- a job that ended did so by its bound, and of one that still waits the clock is below it
abbrev pub InBound : Item → Type 0
InBound (ended j) = j.clock ≤ j.bound
InBound (pending j) = j.clock < j.bound
InBound (unread clock n) = Unit

abbrev pub AllIn : List Item → Type 0
AllIn [] = Unit
AllIn (x ∷ l) = InBound x × AllIn l

-- IN EACH PRINTED LINE `E` THE CLOCK IS AT MOST THE BOUND, AND IN EACH LINE `P` IT IS BELOW IT
abbrev pub PrintedWithin : Type 0
PrintedWithin = (l : List Line) → AllIn (items_of l)

-- how many lines are about jobs
abbrev pub jobs_in : List Item → ℕ
jobs_in [] = 0
jobs_in (ended j ∷ l) = suc (jobs_in l)
jobs_in (pending j ∷ l) = suc (jobs_in l)
jobs_in (unread clock n ∷ l) = jobs_in l

-- the ledger when no more lines are read
unfoldable pub ledger_in : TaskSet → Ledger → List ℕ → Session → List ℕ → ℕ → List Line → Ledger
ledger_in τ g cs s q n [] = g
ledger_in τ g cs s q n (x ∷ l) =
    cond (step_of s q n x).ends (note_of τ g cs s q n x).ledger
    (ledger_in τ (note_of τ g cs s q n x).ledger (note_of τ g cs s q n x).counts (step_of s q n x).session (step_of s q n x).queue (suc n) l)

-- EACH JOB HAS ONE LINE: of an admitted table the lines `E` and `P` are as many as the entries of the ledger
abbrev pub EachJobOnce : Type 0
EachJobOnce =
    (l : List Line) → (opinion_of (rows_in row_limit l)).number ≡ 0
    → jobs_in (items_of l)
    ≡ length (ledger_in (tasks_of (rows_in row_limit l)) empty [] (session_of (rows_in row_limit l)) [] (suc (length (rows_in row_limit l) / 3)) (after_rows row_limit l)).entries

-- EVERY INPUT GETS AN ANSWER: no output is empty, so a length of 0 says that the buffer was too short
abbrev pub NeverEmpty : Type 0
NeverEmpty = (input : List ℕ) → 1 ≤ length (planned_of input)
