-- A table of rows, the work that its jobs ask for, and the facts by which it is judged. Assumes nothing.
-- ---- definitions
use Prim.Native.Nat.{ℕ, zero, suc, ◌+◌, ◌*◌, ◌≤◌, ◌<◌}
use Rattle.std.specs.Prelude.{◌≡◌}
use Rattle.std.proofs.Common.{ap, mul-le-mul_right}
use Rattle.std.proofs.Math.Nat.{mul-le-mul_left, one-le-mul}
use native.Mathlib.Omega.{arith}
use Rattle.bounded.specs.Sum.{sum_to, sum_le, sum_term, sum_zero}
use Rattle.bounded.specs.Besides.{besides, sum_besides}
use Rattle.bounded.specs.Quotient.{ceil_div}
use Rattle.bounded.proofs.QuotientLaws.{ceil_mono, ceil_more, ceil_one}
use Rattle.edf.specs.Jobs.{jobs_by_lem, jobs_none}

-- a table of `rows` rows, from 0; of row i: C, the longest run of a job; T, the least time between arrivals; D, the
-- time from an arrival to its deadline (docs/SPECIFICATION.md §2.1; a set of sporadic tasks)
pub record TaskSet : Type 0 where
  pub rows : ℕ
  pub C : ℕ → ℕ
  pub T : ℕ → ℕ
  pub D : ℕ → ℕ

-- the rule of a row: 1 ≤ C ≤ D ≤ T (§2.1; constrained deadlines). That T is at most 1,000,000 is not needed here.
pub record LawfulRow (τ : TaskSet) (i : ℕ) : Type 0 where
  pub cost : 1 ≤ τ.C i
  pub fits : τ.C i ≤ τ.D i
  pub apart : τ.D i ≤ τ.T i

abbrev pub Lawful : TaskSet → Type 0
Lawful τ = (i : ℕ) → i < τ.rows → LawfulRow τ i

-- the work of row i that is due by t, where its jobs arrive as early and as often as they may
abbrev pub row_demand_lem : TaskSet → ℕ → ℕ → ℕ
row_demand_lem τ t i = τ.C i * jobs_by_lem (τ.D i) (τ.T i) t

-- the demand at t: over the rows with D ≤ t, C times ((t - D) / T, rounded down, plus 1) (§2.3; the demand bound
-- function)
unfoldable pub demand : TaskSet → ℕ → ℕ
demand τ t = sum_to (row_demand_lem τ t) τ.rows

-- the work of row i that arrives in a stretch of r, where its jobs arrive as early and as often as they may
abbrev pub row_request_lem : TaskSet → ℕ → ℕ → ℕ
row_request_lem τ r i = τ.C i * ceil_div r (τ.T i)

-- the work of all rows that arrives in a stretch of r (the request bound function). The busy length is the least r
-- from 1 on that equals it (§2.4; the synchronous busy period).
unfoldable pub request : TaskSet → ℕ → ℕ
request τ r = sum_to (row_request_lem τ r) τ.rows

-- the work of the rows other than k that arrives in a stretch of r: over these rows, C times (r / T, rounded up). The
-- budget of row k is V = D - C - its interference in a stretch of D (§2.2; the worst-case inversion budget).
unfoldable pub interference : TaskSet → ℕ → ℕ → ℕ
interference τ k r = sum_to (besides (row_request_lem τ r) k) τ.rows

-- the demand at t is at most t for every t (the processor demand criterion for the earliest deadline first)
abbrev pub Feasible : TaskSet → Type 0
Feasible τ = (t : ℕ) → demand τ t ≤ t

-- σ is τ with the same or shorter runs
pub record Shortened (σ τ : TaskSet) : Type 0 where
  pub rows : σ.rows ≡ τ.rows
  pub run : (i : ℕ) → i < σ.rows → σ.C i ≤ τ.C i
  pub period : (i : ℕ) → i < σ.rows → σ.T i ≡ τ.T i
  pub deadline : (i : ℕ) → i < σ.rows → σ.D i ≡ τ.D i

-- ---- facts

-- strong induction
pub strong : (P : ℕ → Type 0) → ((n : ℕ) → ((m : ℕ) → m < n → P m) → P n) → (n : ℕ) → P n
strong P step n = step n (below n)
  where
    below : (b m : ℕ) → m < b → P m
    below zero m h = absurd (omega arith)
    below (suc b) m h = step m (λ k l. below b k (omega arith))

-- what others ask for is all that is asked for but the row's own part
pub interference_at : (τ : TaskSet) (k r : ℕ) → k < τ.rows → request τ r ≡ interference τ k r + row_request_lem τ r k
unfolding interference request
interference_at τ k r = sum_besides (row_request_lem τ r) τ.rows k

abbrev pub NoneDue : TaskSet → ℕ → ℕ → Type 0
NoneDue τ t n = (i : ℕ) → i < n → t < τ.D i

-- shorter runs ask for no more
pub demand_shortened : (σ τ : TaskSet) → Shortened σ τ → (t : ℕ) → demand σ t ≤ demand τ t
unfolding demand
demand_shortened σ τ s t =
    rw (← s.rows)
    (sum_le (row_demand_lem σ t) (row_demand_lem τ t) σ.rows
    (λ i l. rw (s.period i l, s.deadline i l) (mul-le-mul_right (jobs_by_lem (τ.D i) (τ.T i) t) (s.run i l))))

module _ (τ : TaskSet) (ok : Lawful τ) where
  pub request_mono : (r s : ℕ) → r ≤ s → request τ r ≤ request τ s
  unfolding request
  request_mono r s h =
      sum_le (row_request_lem τ r) (row_request_lem τ s) τ.rows
      (λ i l. mul-le-mul_left (τ.C i) (ceil_mono r s (τ.T i) (omega (arith, ok i l)) h))

  -- where no row has D ≤ t, the demand at t is 0
  pub demand_none : (t : ℕ) → NoneDue τ t τ.rows → demand τ t ≡ 0
  unfolding demand
  demand_none t none =
      sum_zero (row_demand_lem τ t) τ.rows (λ i l. rw (jobs_none (τ.D i) (τ.T i) t (none i l)) (omega arith))

  -- and so it is at 0
  pub demand_start : demand τ 0 ≤ 0
  demand_start = omega (arith, demand_none 0 (λ i l. omega (arith, ok i l)))

  -- the search for the busy length can begin at 1
  pub request_pos : 1 ≤ τ.rows → 1 ≤ request τ 1
  unfolding request
  request_pos some =
      omega (
        arith,
        sum_term (row_request_lem τ 1) τ.rows 0 some,
        one-le-mul (ok 0 some).cost (ceil_more 1 (τ.T 0) 0 (omega (arith, ok 0 some)) (omega arith)),
      )

  -- in a stretch of its D one job of row i arrives
  pub interference_request : (i : ℕ) → i < τ.rows → request τ (τ.D i) ≡ τ.C i + interference τ i (τ.D i)
  interference_request i l =
      let r = ok i l in
      omega (arith, interference_at τ i (τ.D i) l, ap (λ (n : ℕ). τ.C i * n) (ceil_one (τ.D i) (τ.T i) (omega arith) (omega arith)))
