-- What is guaranteed over every list of calls (docs/SPECIFICATION.md §6.2), of a start and of the record of a refused table (§5.1), of the
-- budget that a job arrives with (§5.3), of the order of jobs and of a choice in a tight session (§5.4), of what a finish gives
-- (§5.6), and of a batch of arrivals (§5.9).
-- Definitions only. Assumes nothing.
use Rattle.std.specs.Prelude.{ℕ, ◌+◌, ◌-◌, ◌*◌, max, ◌≤◌, ◌<◌, ◌≡◌, true, false, Result, List, [], ◌∷◌, ◌++◌, map, ◌⊎◌, ltb, eqb, ℤ, pos, length}
use Rattle.edf.specs.Demand.{TaskSet}
use Rattle.edf.specs.State.{to_come}
use Rattle.table.specs.Rows.{tasks_of}
use Rattle.table.specs.Budgets.{budget_of, brittle}
use Rattle.table.specs.declared.Judgement.{Judgement}
use Rattle.table.specs.declared.Refusal.{Refusal}
use Rattle.table.specs.Verdict.{opinion_of}
use Rattle.table.specs.Opinion.{shown_of}
pub use Rattle.table.specs.Statement.{OverloadDeserved}
use Rattle.session.specs.declared.Session.{Session}
use Rattle.session.specs.declared.Answer.{Answer}
use Rattle.session.specs.declared.Arrival.{Arrival}
use Rattle.session.specs.declared.Outcome.{Outcome}
use Rattle.session.specs.declared.start.Started.{Started}
use Rattle.session.specs.Reading.{job_at, tasks, waits, natural, state_of}
use Rattle.session.specs.Sound.{sound}
use Rattle.session.specs.Order.{arrival_of, came_before, head_of, next_due, brittle_due_lem, near, candidate, idles, candidates}
use Rattle.session.specs.Choose.{pick_of, span_of, pick_used, used_of}
use Rattle.session.specs.Calls.{shown, three, arrival_budget, gains, arrive_of, choose_of, advance_of, finish_of}
use Rattle.session.specs.Batch.{answered, after_all, answered_all}
use Rattle.session.specs.Start.{fresh_of, start_of, session_of, Starts}
use Rattle.guarantee.specs.Ledger.{Call, arrive, choose, advance, finish, Event, End, none, at, Entry, Ledger, ledger_of}

-- A START SAYS WHAT THE OPINION SAYS: j is the opinion on the table l, and r what a start of it gives where s₀ was there before.
-- The opinion is the same. An admitted table gives the fresh session of the opinion's kind; a refused one leaves s₀.
pub record SaysOpinion (s₀ : Session) (l : List ℕ) (j : Result Judgement Refusal) (r : Started) : Type 0 where
  pub opinion : r.opinion ≡ j
  pub fresh : (shown_of j).number ≡ 0 → r.session ≡ fresh_of l (shown_of j).first
  pub same : ((shown_of j).number ≡ 0 → ⊥) → r.session ≡ s₀

abbrev pub StartIsOpinion : Type 0
StartIsOpinion = (s₀ : Session) (l : List ℕ) (j : Result Judgement Refusal) (r : Started) → shown_of j ≡ opinion_of l → Starts s₀ l r → SaysOpinion s₀ l j r

-- what a call does to a session, by the definitions that the contracts of the four calls cite
abbrev pub outcome_of : Session → Call → Outcome
outcome_of s (arrive row) = arrive_of s row
outcome_of s (choose l) = choose_of s l
outcome_of s (advance n) = advance_of s n
outcome_of s finish = finish_of s

-- what a host calls: one of the four, or a batch, a list of records whose rows arrive
pub data HostCall : Type 0 where
  single : Call → HostCall
  batch : List Arrival → HostCall

-- the session that it leaves
abbrev pub session_by : Session → HostCall → Session
session_by s (single c) = (outcome_of s c).session
session_by s (batch l) = after_all s l

-- a record of a batch, as the ledger notes it: an arrive with the answer in its place
abbrev pub record_event : Arrival → Event
record_event a = record { call = arrive a.row; answer = three a.number a.first a.second }

-- what the ledger notes: the call with its answer in numbers; of a batch each of the records that it leaves
abbrev pub events_by : Session → HostCall → List Event
events_by s (single c) = record { call = c; answer = shown (outcome_of s c).answer } ∷ []
events_by s (batch l) = map record_event (answered_all s l)

-- the session after a list of calls, each of which gets the session that the last one left
unfoldable pub session_after : Session → List HostCall → Session
session_after s [] = s
session_after s (c ∷ l) = session_after (session_by s c) l

-- what the ledger notes of them
unfoldable pub events_of : Session → List HostCall → List Event
events_of s [] = []
events_of s (c ∷ l) = events_by s c ++ events_of (session_by s c) l

-- the session that calls lead to from a start of the table l, where s₀ was there before: a session that was running, a record
-- of whatever content, or none
abbrev pub session_from : Session → List ℕ → List HostCall → Session
session_from s₀ l calls = session_after (start_of s₀ l) calls

-- a job that is over ended no later than its deadline, arrival + D; any other has its deadline still ahead of the clock
abbrev pub Timely : TaskSet → ℕ → Entry → Type 0
Timely τ clock e = by e.end
  where
    by : End → Type 0
    by none = clock < e.arrival + τ.D e.row
    by (at x) = x ≤ e.arrival + τ.D e.row

abbrev pub AllTimely : TaskSet → ℕ → List Entry → Type 0
AllTimely τ clock [] = Unit
AllTimely τ clock (e ∷ l) = Timely τ clock e × AllTimely τ clock l

abbrev pub InTime : TaskSet → Ledger → Type 0
InTime τ g = AllTimely τ g.clock g.entries

-- NO JOB IS LATE: from a start of every admitted table, whatever session was there before, after every list of calls
abbrev pub NoJobLate : Type 0
NoJobLate =
    (l : List ℕ) → (opinion_of l).number ≡ 0
    → (s₀ : Session) (calls : List HostCall) → InTime (tasks_of l) (ledger_of (tasks_of l) (events_of (start_of s₀ l) calls))

-- the session reached is sound, so that no call after a start is refused with 5
abbrev pub AlwaysSound : Type 0
AlwaysSound = (l : List ℕ) → (opinion_of l).number ≡ 0 → (s₀ : Session) (calls : List HostCall) → sound (session_from s₀ l calls) ≡ true

-- none of these answers is 5
abbrev pub NoFive : List Event → Type 0
NoFive [] = Unit
NoFive (e ∷ l) = (e.answer.number ≡ 5 → ⊥) × NoFive l

abbrev pub NeverFive : Type 0
NeverFive =
    (l : List ℕ) → (opinion_of l).number ≡ 0
    → (s₀ : Session) (calls : List HostCall) (c : HostCall) → NoFive (events_by (session_from s₀ l calls) c)

-- ONE BY ONE: a batch leaves the session that its arrives leave one by one, and its records, rows and answers, are these
-- arrives with their answers
abbrev pub OneByOne : Type 0
OneByOne = (s : Session) (l : List Arrival) → (after_all s l ≡ session_after s (arrives_of l)) × (map record_event (answered_all s l) ≡ events_of s (arrives_of l))
  where
    arrives_of : List Arrival → List HostCall
    arrives_of l = map (λ (a : Arrival). single (arrive a.row)) l

-- each table refused as overloaded has allowed arrivals of which every order of work leaves some job not served in time:
-- `OverloadDeserved`, which stands in crates/table/specs/Theorems.antt and is a name of this file by its `pub use`

-- the batch l on s answers 5 in every record, and leaves s
pub record EachFive (s : Session) (l : List Arrival) : Type 0 where
  pub records : answered_all s l ≡ map (λ (a : Arrival). answered a (three 5 0 0)) l
  pub session : after_all s l ≡ s

-- AN UNSOUND SESSION ANSWERS 5 IN EVERY RECORD OF A BATCH
abbrev pub UnsoundFive : Type 0
UnsoundFive = (s : Session) → sound s ≡ false → (l : List Arrival) → EachFive s l

-- EVERY CALL ON THE RECORD OF A REFUSED TABLE ANSWERS 5: it uses no word and leaves the record as it was
pub record Fives (s : Session) : Type 0 where
  pub one : (c : Call) → (shown (outcome_of s c).answer ≡ three 5 0 0) × ((outcome_of s c).used ≡ 0) × ((outcome_of s c).session ≡ s)
  pub all : (l : List Arrival) → EachFive s l

abbrev pub AlwaysFive : Type 0
AlwaysFive = (l : List ℕ) → ((opinion_of l).number ≡ 0 → ⊥) → Fives (session_of l)

-- EQUAL CALLS GIVE EQUAL SCHEDULES: equal calls, with equal words, on equal sessions have equal outcomes. This holds of
-- every function; that the code computes this one is the contract of each call.
abbrev pub Deterministic : Type 0
Deterministic = (s s' : Session) (c c' : Call) → s ≡ s' → c ≡ c' → outcome_of s c ≡ outcome_of s' c'

-- equal lists of calls from equal sessions have equal events, and lead to equal sessions
abbrev pub DeterministicAfter : Type 0
DeterministicAfter =
    (s s' : Session) (calls calls' : List HostCall) → s ≡ s' → calls ≡ calls'
    → (events_of s calls ≡ events_of s' calls') × (session_after s calls ≡ session_after s' calls')

-- OF EQUAL DEADLINES THE GREATER D ARRIVED FIRST: in every session, whatever the numbers, also where an arrival lies before 0
abbrev pub GreaterFirst : Type 0
GreaterFirst =
    (s : Session) (i j : ℕ) → (job_at s i).due ≡ (job_at s j).due → came_before s i j ≡ ltb ((tasks s).D j) ((tasks s).D i)

-- e is the latest entry of row i
pub data Latest (i : ℕ) (e : Entry) : List Entry → Type 0 where
  here : {l : List Entry} → e.row ≡ i → Latest i e (e ∷ l)
  past : {f : Entry} {l : List Entry} → ¬ (f.row ≡ i) → Latest i e l → Latest i e (f ∷ l)

-- the latest entry of row i has no end, and its arrival is a
pub record Arrived (i : ℕ) (a : ℤ) (l : List Entry) : Type 0 where
  pub entry : Entry
  pub latest : Latest i entry l
  pub waiting : entry.end ≡ none
  pub arrival : a ≡ pos entry.arrival

-- JOBS ARE ORDERED BY WHEN THEY REALLY ARRIVED: from a start of every admitted table, after every list of calls, the
-- arrival by which a waiting job is ordered is the one that the ledger has of it
abbrev pub ArrivalsTold : Type 0
ArrivalsTold =
    (l : List ℕ) → (opinion_of l).number ≡ 0
    → (s₀ : Session) (calls : List HostCall) (i : ℕ) → i < (tasks_of l).rows → waits (session_from s₀ l calls) i ≡ true
    → Arrived i (arrival_of (session_from s₀ l calls) i) (ledger_of (tasks_of l) (events_of (start_of s₀ l) calls)).entries

-- THE BUDGET OF A NEW JOB IS NOT CUT: in every sound record, also one that no list of calls leads to, where a job of a row that
-- is not brittle arrives, its budget is D − C less what the other rows can ask for by its deadline. So this is never negative.
abbrev pub BudgetWhole : Type 0
BudgetWhole =
    (s : Session) → sound s ≡ true → length s.jobs ≡ 16 → length s.words ≡ 48
    → (row : ℕ) → brittle (tasks s) row ≡ false → (shown (arrive_of s row).answer).number ≡ 0
    → pos (job_at (arrive_of s row).session row).budget ≡ arrival_budget s row

-- A NEW JOB'S BUDGET IS NEVER BELOW V: from a start of every admitted table, after every list of calls, where a job of any row
-- arrives. (A V that is negative counts as 0. For a batch see `OneByOne`.)
abbrev pub NeverBelowV : Type 0
NeverBelowV =
    (l : List ℕ) → (opinion_of l).number ≡ 0
    → (s₀ : Session) (calls : List HostCall) (row : ℕ) → (shown (arrive_of (session_from s₀ l calls) row).answer).number ≡ 0
    → natural (budget_of (tasks_of l) row) ≤ (job_at (arrive_of (session_from s₀ l calls) row).session row).budget

-- IT IS NEVER BELOW V IN ANY SOUND RECORD, also one that no list of calls leads to
abbrev pub SoundNeverBelowV : Type 0
SoundNeverBelowV =
    (s : Session) → sound s ≡ true → length s.jobs ≡ 16 → length s.words ≡ 48
    → (row : ℕ) → (shown (arrive_of s row).answer).number ≡ 0
    → natural (budget_of (tasks s) row) ≤ (job_at (arrive_of s row).session row).budget

-- the deadline of a job of row j that is still to come, the m-th from 0: the first arrives at the later of clock and earliest next
-- arrival, the others T apart
abbrev pub due_to_come : Session → ℕ → ℕ → ℕ
due_to_come s j m = max s.clock (job_at s j).next + m * (tasks s).T j + (tasks s).D j

-- EACH DEADLINE COUNTS ONCE: in every sound record, of the jobs of row j still to come, as many count against a deadline d as are
-- due no later than d: the m-th is, exactly if m is below that number
abbrev pub DeadlinesCounted : Type 0
DeadlinesCounted =
    (s : Session) → sound s ≡ true → (d j : ℕ) → j < (tasks s).rows
    → (m : ℕ) → (m < to_come (tasks s) (state_of s) d j → due_to_come s j m ≤ d) × (due_to_come s j m ≤ d → m < to_come (tasks s) (state_of s) d j)

-- row i's job gains all of the ticks that the answer a of a finish reports as unused, which leads from s to s': the cap,
-- D − C, does not cut
pub record GainsAll (s s' : Session) (a : Answer) (i : ℕ) : Type 0 where
  pub fits : (job_at s i).budget + (shown a).second ≤ (tasks s).D i - (tasks s).C i
  pub all : (job_at s' i).budget ≡ (job_at s i).budget + (shown a).second

-- THE CAP CUTS NOTHING: from a start of every admitted table, after every list of calls, where a finish is accepted,
-- each job that gains has all of the unused ticks as budget besides its own
abbrev pub CapCutsNothing : Type 0
CapCutsNothing =
    (l : List ℕ) → (opinion_of l).number ≡ 0
    → (s₀ : Session) (calls : List HostCall) → (shown (finish_of (session_from s₀ l calls)).answer).number ≡ 0
    → (i : ℕ) → i < (tasks_of l).rows → gains (session_from s₀ l calls) i ≡ true
    → GainsAll (session_from s₀ l calls) (finish_of (session_from s₀ l calls)).session (finish_of (session_from s₀ l calls)).answer i

-- the head is the only candidate
pub record HeadOnly (s : Session) : Type 0 where
  -- a row is a candidate only if it is the head, idle is none, and there is one in all
  pub row : (i : ℕ) → i < s.count → candidate s i ≡ eqb i (head_of s)
  pub not_idle : idles s ≡ false
  pub number : candidates s ≡ 1
  -- so whatever the words are, the head is chosen for its remaining ticks, and no word is used
  pub pick : (l : List ℕ) → pick_of s l ≡ head_of s
  pub span : (l : List ℕ) → span_of s l (pick_used s l) (pick_of s l) ≡ (job_at s (head_of s)).left
  pub used : (l : List ℕ) → used_of s l ≡ 0

-- IN A TIGHT SESSION THE HEAD IS THE ONLY CANDIDATE: in every sound session of kind 2 in which a job waits
abbrev pub TightHead : Type 0
TightHead = (s : Session) → sound s ≡ true → s.kind ≡ 2 → (i : ℕ) → i < s.count → waits s i ≡ true → HeadOnly s

-- d is the earliest deadline that the next job of any brittle row of s can have
pub record EarliestBrittle (s : Session) (d : ℕ) : Type 0 where
  pub row : ℕ
  pub known : row < s.count
  pub marked : brittle (tasks s) row ≡ true
  pub is : d ≡ next_due s row
  pub least : (j : ℕ) → j < s.count → brittle (tasks s) j ≡ true → d ≤ next_due s j

-- c is a waiting row: the head, or one whose job is due no later than the brittle deadline
pub record HeadOrNear (s : Session) (c : ℕ) : Type 0 where
  pub known : c < s.count
  pub waiting : waits s c ≡ true
  pub near : (c ≡ head_of s) ⊎ ((job_at s c).due ≤ brittle_due_lem s)

-- IN A MIXED SESSION NO CHOICE PASSES THE BRITTLE DEADLINE: in every sound session of kind 3 there is one, and where a job
-- waits, the row that is chosen is the head or due by then, whatever the words are. So it is never idle.
abbrev pub MixedChoice : Type 0
MixedChoice =
    (s : Session) → sound s ≡ true → s.kind ≡ 3
    → EarliestBrittle s (brittle_due_lem s) × ((i : ℕ) → i < s.count → waits s i ≡ true → (l : List ℕ) → HeadOrNear s (pick_of s l))

-- IN A LOOSE SESSION THE BRITTLE DEADLINE KEEPS NOTHING OUT: in every sound record of kind 1 each waiting job is due by then
abbrev pub LooseFree : Type 0
LooseFree =
    (s : Session) → sound s ≡ true → length s.words ≡ 48 → s.kind ≡ 1
    → (i : ℕ) → i < s.count → waits s i ≡ true → near s i ≡ true
