-- The lines about jobs that `planner` prints (docs/SPECIFICATION.md §14.4), from the ledger and its counts. Definitions only.
-- Assumes nothing.
use Rattle.std.specs.Prelude.{ℕ, ◌+◌, Bool, false, ◌&&◌, cond, List, [], ◌∷◌, ◌++◌, eqb}
use Rattle.bounded.specs.Fold.{fold_to}
use Rattle.edf.specs.Demand.{TaskSet}
use Rattle.edf.specs.Response.{response_of}
use Rattle.lines.specs.Text.{field_text, head_text, line_text}
use Rattle.session.specs.Calls.{Shown}
use Rattle.guarantee.specs.Ledger.{Call, arrive, choose, advance, finish, Event, Entry, Ledger}
use Rattle.guarantee.specs.History.{unended}

-- a job as it is printed, with the clock; its bound is arrival + D − V + inversion ticks
pub record JobLine : Type 0 where
  pub clock : ℕ
  pub row : ℕ
  pub arrival : ℕ
  pub bound : ℕ
  pub inversions : ℕ

-- what is printed after the table: a job that ended, one that still waits, and that a line is unreadable, with its number
pub data Item : Type 0 where
  ended : JobLine → Item
  pending : JobLine → Item
  unread : ℕ → ℕ → Item

-- ---- the text

unfoldable pub job_text : ℕ → JobLine → List ℕ
job_text letter j =
    head_text j.clock letter 0 j.row ++ field_text j.arrival 9 ++ field_text j.bound 9 ++ field_text j.inversions 10

-- letters `E`, `P` and `?`
abbrev pub item_text : Item → List ℕ
item_text (ended j) = job_text 69 j
item_text (pending j) = job_text 80 j
item_text (unread clock n) = line_text clock 63 13 n 0

unfoldable pub items_text : List Item → List ℕ
items_text [] = []
items_text (x ∷ l) = item_text x ++ items_text l

-- ---- the lines, from the ledger g and its counts

-- the latest entry of a row, with its count: its arrival, and whether its job waits
pub record Latest : Type 0 where
  pub arrival : ℕ
  pub inversions : ℕ
  pub waiting : Bool

unfoldable pub latest_of : ℕ → List Entry → List ℕ → Latest
latest_of row [] cs = record { arrival = 0; inversions = 0; waiting = false }
latest_of row (e ∷ es) [] = record { arrival = 0; inversions = 0; waiting = false }
latest_of row (e ∷ es) (c ∷ cs) =
    cond (eqb e.row row) (record { arrival = e.arrival; inversions = c; waiting = unended e.end }) (latest_of row es cs)

-- a job's line. D − V is the response where no later job runs before it (`response_is` in crates/table/specs/Budgets.antt).
abbrev pub line_by_lem : TaskSet → ℕ → ℕ → ℕ → ℕ → JobLine
line_by_lem τ clock row arrival inversions = record {
  clock = clock;
  row = row;
  arrival = arrival;
  bound = arrival + response_of τ row + inversions;
  inversions = inversions;
}

-- the line of a row's latest entry
abbrev pub line_of : TaskSet → Ledger → List ℕ → ℕ → JobLine
line_of τ g cs row = line_by_lem τ g.clock row (latest_of row g.entries cs).arrival (latest_of row g.entries cs).inversions

-- a job is over by the call: by an accepted advance whose second value is 1, and by an accepted finish
unfoldable pub ended_by : Call → Shown → Bool
ended_by (arrive row) a = false
ended_by (choose w) a = false
ended_by (advance n) a = eqb a.number 0 && eqb a.second 1
ended_by finish a = eqb a.number 0

-- what an event prints, where g and cs are what it leaves
unfoldable pub ended_items : TaskSet → Ledger → List ℕ → Event → List Item
ended_items τ g cs e = cond (ended_by e.call e.answer) (ended (line_of τ g cs g.chosen) ∷ []) []

-- the job of row i, where it still waits
unfoldable pub pending_item : TaskSet → Ledger → List ℕ → ℕ → List Item
pending_item τ g cs i = cond (latest_of i g.entries cs).waiting (pending (line_of τ g cs i) ∷ []) []

-- of all rows
unfoldable pub pending_items : TaskSet → Ledger → List ℕ → List Item
pending_items τ g cs = fold_to (λ l i. l ++ pending_item τ g cs i) [] τ.rows
