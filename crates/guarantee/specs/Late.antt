-- How late a job can be, over every list of calls (docs/SPECIFICATION.md §14.1). Statements only. Assumes nothing.
use Rattle.std.specs.Prelude.{ℕ, ◌≡◌, true, false, List, [], ◌∷◌, ℤ, pos, ◌+ℤ◌, ◌-ℤ◌, get_or}
use Rattle.std.specs.Int.Signed.{lt_z}
use Rattle.table.specs.Rows.{tasks_of}
use Rattle.table.specs.Verdict.{opinion_of}
use Rattle.session.specs.declared.Session.{Session}
use Rattle.session.specs.Start.{start_of}
use Rattle.guarantee.specs.Ledger.{Event, End, none, at, Entry, ledger_of}
use Rattle.guarantee.specs.Statement.{HostCall, events_of}
use Rattle.guarantee.specs.History.{counts_of}

-- V of row i as the opinion on the table l reports it, signed
abbrev pub reported : List ℕ → ℕ → ℤ
reported l i = get_or (opinion_of l).budgets i (pos 0)

-- the bound of a job: arrival + D − V + c, where c are its inversion ticks
abbrev pub bound_of : List ℕ → Entry → ℕ → ℤ
bound_of l e c = pos e.arrival +ℤ (pos ((tasks_of l).D e.row) -ℤ reported l e.row) +ℤ pos c

-- a job that is over ended no later than its bound; of any other the clock is below its bound so far
abbrev pub Bounded : List ℕ → ℕ → Entry → ℕ → Type 0
Bounded l clock e c = by e.end
  where
    by : End → Type 0
    by none = lt_z (pos clock) (bound_of l e c) ≡ true
    by (at x) = lt_z (bound_of l e c) (pos x) ≡ false

-- each entry has its count, and is bounded
pub data AllBounded (l : List ℕ) (clock : ℕ) : List Entry → List ℕ → Type 0 where
  no_entry : AllBounded l clock [] []
  one_more : {e : Entry} {es : List Entry} {c : ℕ} {cs : List ℕ} → Bounded l clock e c → AllBounded l clock es cs → AllBounded l clock (e ∷ es) (c ∷ cs)

-- of the ledger that these events make, and of its counts
abbrev pub InBounds : List ℕ → List Event → Type 0
InBounds l es = AllBounded l (ledger_of (tasks_of l) es).clock (ledger_of (tasks_of l) es).entries (counts_of (tasks_of l) es)

-- HOW LATE: from a start of every admitted table, whatever session was there before, after every list of calls. So it holds of a
-- loose session, where no V is negative, of a mixed and of a tight one, and of brittle rows too.
abbrev pub HowLate : Type 0
HowLate = (l : List ℕ) → (opinion_of l).number ≡ 0 → (s₀ : Session) (calls : List HostCall) → InBounds l (events_of (start_of s₀ l) calls)
