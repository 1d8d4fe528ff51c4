-- The guarantee for calls in any form (docs/SPECIFICATION.md §5.8, §6.2, §9): by value, on a lent record, or through an export.
-- Each call gets the session that the last one returned or left. Definitions only. Assumes nothing.
use Rattle.std.specs.Prelude.{ℕ, ◌≡◌, List, [], ◌∷◌, ◌++◌}
use Rattle.table.specs.Rows.{tasks_of}
use Rattle.table.specs.Verdict.{opinion_of}
use Rattle.session.specs.declared.Session.{Session}
use Rattle.session.specs.Calls.{Shown, shown, three}
use Rattle.session.specs.Start.{start_of}
use Rattle.guarantee.specs.Ledger.{Call, Event, ledger_of}
use Rattle.guarantee.specs.Statement.{outcome_of, HostCall, single, batch, session_by, events_by, session_from, NoFive, InTime}
use Rattle.guarantee.specs.Late.{InBounds}
use Rattle.lent.specs.Reply as lending
use Rattle.host.specs.declared.Reply.{Reply}
use Rattle.host.specs.Reply.{reply_of}

-- a call on a session that goes in and comes back, on a record that is lent, or through an export
pub data Form : Type 0 where
  by_value : Form
  lent : Form
  exported : Form

-- what the caller of an export sees, without the words used
abbrev pub numbers_of : Reply → Shown
numbers_of r = three r.number r.first r.second

-- the answer of a call on s in numbers, by what its contract in that form cites
abbrev pub answer_in : Form → Session → Call → Shown
answer_in by_value s c = shown (outcome_of s c).answer
answer_in lent s c = shown (lending.reply_of (outcome_of s c)).answer
answer_in exported s c = numbers_of (reply_of (outcome_of s c))

-- what the ledger notes of it. The contract of a batch is the same in every form.
abbrev pub events_by_form : Form → Session → HostCall → List Event
events_by_form f s (single c) = record { call = c; answer = answer_in f s c } ∷ []
events_by_form f s (batch l) = events_by s (batch l)

-- and of a list of calls. In every form the session that is returned, or left in the record, is the same, by the contract; so
-- `AlwaysSound` and `CapCutsNothing` of crates/guarantee/specs/Statement.antt speak of every form.
unfoldable pub events_in : Session → List (Form × HostCall) → List Event
events_in s [] = []
events_in s (c ∷ l) = events_by_form c.0 s c.1 ++ events_in (session_by s c.1) l

-- NO JOB IS LATE, IN ANY FORM: from a start of every admitted table, after every list of calls, each of them by value, on the
-- lent record or through an export, and batches among them. The start too is made in any form: by value there is no session
-- before; a lent record may have held anything.
abbrev pub NoJobLateAnyForm : Type 0
NoJobLateAnyForm =
    (l : List ℕ) → (opinion_of l).number ≡ 0
    → (s₀ : Session) (calls : List (Form × HostCall)) → InTime (tasks_of l) (ledger_of (tasks_of l) (events_in (start_of s₀ l) calls))

-- HOW LATE, IN ANY FORM: of these lists too no job ends later than its bound
abbrev pub HowLateAnyForm : Type 0
HowLateAnyForm =
    (l : List ℕ) → (opinion_of l).number ≡ 0 → (s₀ : Session) (calls : List (Form × HostCall)) → InBounds l (events_in (start_of s₀ l) calls)

-- and no call from such a session answers 5, in any form, nor does a record of a batch hold it
abbrev pub NeverFiveAnyForm : Type 0
NeverFiveAnyForm =
    (l : List ℕ) → (opinion_of l).number ≡ 0
    → (s₀ : Session) (calls : List HostCall) (f : Form) (c : HostCall) → NoFive (events_by_form f (session_from s₀ l calls) c)
