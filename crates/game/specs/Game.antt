-- Arrivals against the scheduler, tick by tick (docs/SPECIFICATION.md §13.1). Definitions only. Assumes nothing.
use Rattle.std.specs.Prelude.{ℕ, zero, suc, ◌+◌, ◌-◌, ◌%◌, ◌≤◌, ◌<◌, ◌≡◌, Bool, true, ◌&&◌, cond, ◌⊎◌, leb, ltb, eqb}
use Rattle.edf.specs.Demand.{TaskSet, demand}
use Rattle.edf.specs.Arrivals.{Tick, to, none}

-- the clock; and of row i: its earliest next release, the deadline of its last job, and how many ticks that job still has to run
pub record Position : Type 0 where
  pub clock : ℕ
  pub next : ℕ → ℕ
  pub due : ℕ → ℕ
  pub left : ℕ → ℕ

-- a job of row i waits
abbrev pub Waits : Position → ℕ → Type 0
Waits p i = 1 ≤ p.left i

-- before the first tick: any row may have a release, and no job waits
abbrev pub opening : Position
opening = record { clock = 0; next = λ i. 0; due = λ i. 0; left = λ i. 0 }

-- ARRIVALS' MOVE is a set of rows: each a row of the table, whose last release is T or more ago
abbrev pub Legal : TaskSet → (ℕ → Bool) → Position → Type 0
Legal τ r p = (i : ℕ) → r i ≡ true → (i < τ.rows) × (p.next i ≤ p.clock)

-- a job of each of these rows waits, with its full C to run, due D from now; the row's next may come T from now
abbrev pub released : TaskSet → (ℕ → Bool) → Position → Position
released τ r p = record {
  clock = p.clock;
  next = λ i. cond (r i) (p.clock + τ.T i) (p.next i);
  due = λ i. cond (r i) (p.clock + τ.D i) (p.due i);
  left = λ i. cond (r i) (τ.C i) (p.left i);
}

-- THE SCHEDULER'S MOVE: the tick goes to any job that waits, or to none
abbrev pub MayPlay : TaskSet → Position → Tick → Type 0
MayPlay τ p (to k) = (k < τ.rows) × Waits p k
MayPlay τ p none = Unit

-- the job has one tick less to run, and the clock rises
abbrev pub played : Tick → Position → Position
played (to k) p =
    record { clock = p.clock + 1; next = p.next; due = p.due; left = λ i. cond (eqb i k) (p.left i - 1) (p.left i) }
played none p = record { clock = p.clock + 1; next = p.next; due = p.due; left = p.left }

-- a job is unfinished at its deadline
abbrev pub Missed : TaskSet → Position → Type 0
Missed τ p = (i : ℕ) × (i < τ.rows) × Waits p i × (p.due i ≤ p.clock)

-- ARRIVALS CAN FORCE a job unfinished at its deadline within n ticks: they have a move such that against every play of the
-- scheduler a job is so after the tick, or they can force it within the n - 1 ticks from there on
abbrev pub Forces : TaskSet → ℕ → Position → Type 0
Forces τ zero p = ⊥
Forces τ (suc n) p =
    (r : ℕ → Bool) × Legal τ r p
    × ((m : Tick) → MayPlay τ (released τ r p) m → Missed τ (played m (released τ r p)) ⊎ Forces τ n (played m (released τ r p)))

-- ---- a line of releases, fixed beforehand: at which tick which rows have one

-- IT WINS within n ticks WHATEVER IS PLAYED: what it releases is legal, and against every play a job is unfinished at its
-- deadline after the tick, or it wins within the n - 1 ticks from there on
abbrev pub Wins : TaskSet → (ℕ → ℕ → Bool) → ℕ → Position → Type 0
Wins τ l zero p = ⊥
Wins τ l (suc n) p =
    Legal τ (l p.clock) p
    × ((m : Tick) → MayPlay τ (released τ (l p.clock) p) m
    → Missed τ (played m (released τ (l p.clock) p)) ⊎ Wins τ l n (played m (released τ (l p.clock) p)))

-- the jobs that the demand at t counts: of each row those at 0, T, 2 T, .., as long as they are due by t
unfoldable pub line_to : TaskSet → ℕ → ℕ → ℕ → Bool
line_to τ t c i = ltb i τ.rows && (eqb (c % τ.T i) 0 && leb (c + τ.D i) t)

-- ---- the demand

-- it exceeds t for some t up to n
abbrev pub Exceeds : TaskSet → ℕ → Type 0
Exceeds τ n = (t : ℕ) × (t ≤ n) × (t < demand τ t)
