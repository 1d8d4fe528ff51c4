-- What it means that a table is overloaded (docs/SPECIFICATION.md §4). Definitions only. Assumes nothing.
use Rattle.std.specs.Prelude.{ℕ, ◌+◌, ◌≤◌, ◌<◌, ◌≡◌, Bool, false, ◌⊎◌, List, eqb, length, get_or}
use Rattle.bounded.specs.Sum.{sum_to}
use Rattle.bounded.specs.Tests.{gate}
use Rattle.edf.specs.Demand.{TaskSet}

-- an arrival: a job of a row arrives at a tick
pub record Arrival : Type 0 where
  pub row : ℕ
  pub tick : ℕ

-- the arrival at position p of a list, from 0
abbrev pub at : List Arrival → ℕ → Arrival
at l p = get_or l p (record { row = 0; tick = 0 })

-- arrivals are allowed when each row is in the table and any two arrivals of one row lie at least T apart; the list
-- need not be in the order of time
pub record Allowed (τ : TaskSet) (l : List Arrival) : Type 0 where
  pub known : (p : ℕ) → p < length l → (at l p).row < τ.rows
  pub apart : (p q : ℕ) → p < q → q < length l → (at l p).row ≡ (at l q).row
      → ((at l p).tick + τ.T (at l p).row ≤ (at l q).tick) ⊎ ((at l q).tick + τ.T (at l q).row ≤ (at l p).tick)

-- an order of work gives each tick from 0 on to one row or to none
pub data Tick : Type 0 where
  to : ℕ → Tick
  none : Tick

abbrev pub Order : Type 0
Order = ℕ → Tick

-- whether a tick goes to row i
unfoldable pub goes_to : ℕ → Tick → Bool
goes_to i (to j) = eqb i j
goes_to i none = false

-- how many of the ticks from a up to, and without, a + len go to row i
unfoldable pub served : Order → ℕ → ℕ → ℕ → ℕ
served w i a len = sum_to (λ x. gate (goes_to i (w (a + x))) 1) len

-- a job is served in time when at least C of the ticks from its arrival up to, and without, its deadline, which is
-- D later, go to its row
abbrev pub InTime : TaskSet → Order → Arrival → Type 0
InTime τ w a = τ.C a.row ≤ served w a.row a.tick (τ.D a.row)

-- a table is overloaded when there are allowed arrivals of which every order of work leaves some job not served in time
abbrev pub Unservable : TaskSet → Type 0
Unservable τ = (l : List Arrival) × Allowed τ l × ((w : Order) → (p : ℕ) × (p < length l) × (InTime τ w (at l p) → ⊥))
