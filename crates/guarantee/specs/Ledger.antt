-- The ledger, kept from the table, the calls and their answers alone (docs/SPECIFICATION.md §6.1). Assumes nothing.
-- It holds jobs, ends and a clock, and looks into no session. Definitions only.
use Rattle.std.specs.Prelude.{ℕ, ◌+◌, cond, List, [], ◌∷◌, leb, eqb}
use Rattle.edf.specs.Demand.{TaskSet}
use Rattle.session.specs.Reading.{idle}
use Rattle.session.specs.Calls.{Shown}

-- the four calls, with any row, words and span
pub data Call : Type 0 where
  arrive : ℕ → Call
  choose : List ℕ → Call
  advance : ℕ → Call
  finish : Call

-- a call and its answer in numbers, as every form of a call gives it: 0 where the call is accepted, and two values
pub record Event : Type 0 where
  pub call : Call
  pub answer : Shown

pub data End : Type 0 where
  none : End
  at : ℕ → End

-- one job
pub record Entry : Type 0 where
  pub row : ℕ
  pub arrival : ℕ
  pub run : ℕ
  pub end : End

-- the clock, the chosen row (16 for idle), and one entry for each job, the latest first
pub record Ledger : Type 0 where
  pub clock : ℕ
  pub chosen : ℕ
  pub entries : List Entry

abbrev pub empty : Ledger
empty = record { clock = 0; chosen = idle; entries = [] }

-- an entry changes
abbrev pub ran : TaskSet → ℕ → ℕ → Entry → Entry
ran τ clock n e = record {
  row = e.row;
  arrival = e.arrival;
  run = e.run + n;
  end = cond (leb (τ.C e.row) (e.run + n)) (at clock) e.end;
}

abbrev pub ended : ℕ → Entry → Entry
ended clock e = record { row = e.row; arrival = e.arrival; run = e.run; end = at clock }

-- the latest entry of a row changes
unfoldable pub on_latest : ℕ → (Entry → Entry) → List Entry → List Entry
on_latest row f [] = []
on_latest row f (e ∷ l) = cond (eqb e.row row) (f e ∷ l) (e ∷ on_latest row f l)

-- what an accepted call does to the ledger
-- Arrive (row): a new entry, with arrival = clock, run 0 and no end.
-- Choose: the chosen row is the one answered, 16 for idle.
-- Advance (n): the clock rises by n. Unless the chosen row is 16, the latest entry of that row runs n more; once its run
-- is C or more, its end is the clock.
-- Finish: the latest entry of the chosen row gets the clock as its end.
unfoldable pub noted : TaskSet → Ledger → Call → Shown → Ledger
noted τ g (arrive row) a = record {
  clock = g.clock;
  chosen = g.chosen;
  entries = record { row = row; arrival = g.clock; run = 0; end = none } ∷ g.entries;
}
noted τ g (choose l) a = record { clock = g.clock; chosen = a.first; entries = g.entries }
noted τ g (advance n) a = record {
  clock = g.clock + n;
  chosen = g.chosen;
  entries = cond (eqb g.chosen idle) g.entries (on_latest g.chosen (ran τ (g.clock + n) n) g.entries);
}
noted τ g finish a = record {
  clock = g.clock;
  chosen = g.chosen;
  entries = on_latest g.chosen (ended g.clock) g.entries;
}

-- one event: a refused call changes nothing
unfoldable pub kept : TaskSet → Ledger → Event → Ledger
kept τ g e = cond (eqb e.answer.number 0) (noted τ g e.call e.answer) g

-- the ledger after a list of events, the first of them first
unfoldable pub ledger_from : TaskSet → Ledger → List Event → Ledger
ledger_from τ g [] = g
ledger_from τ g (e ∷ l) = ledger_from τ (kept τ g e) l

abbrev pub ledger_of : TaskSet → List Event → Ledger
ledger_of τ l = ledger_from τ empty l
