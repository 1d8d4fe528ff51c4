-- More laws of specs/Demand.antt: they rest on what a must-fail edit makes false. Assumes nothing.
use Prim.Native.Nat.{ℕ, zero, suc, ◌+◌, ◌-◌, ◌*◌, ◌≤◌, ◌<◌}
use Rattle.std.specs.Prelude.{◌≡◌, ◌⊎◌}
use Rattle.std.proofs.Common.{inl, inr, ⊎_elim}
use Rattle.std.proofs.Math.Logic.{dite}
use Rattle.std.proofs.Math.Nat.{mul-le-mul_left}
use native.Mathlib.Omega.{arith}
use Rattle.std.proofs.Math.Decide.{dec_le, dec_lt, ℕ_discrete}
use Rattle.bounded.specs.Sum.{sum_le, sum_lt, sum_add}
use Rattle.edf.specs.Jobs.{jobs_by_lem}
use Rattle.edf.proofs.JobsLaws.{jobs_mono, jobs_rise, jobs_split}
use Rattle.edf.specs.Demand.{TaskSet, Lawful, row_demand_lem, demand, row_request_lem, request, interference, Feasible, strong, NoneDue, demand_none, demand_start, interference_request}

-- some row of the first n has D ≤ t; and none has
abbrev SomeDue : TaskSet → ℕ → ℕ → Type 0
SomeDue τ t n = (i : ℕ) × (i < n) × (τ.D i ≤ t)

some_due : (τ : TaskSet) (t n : ℕ) → SomeDue τ t n ⊎ NoneDue τ t n
some_due τ t zero = inr (λ i l. absurd (omega arith))
some_due τ t (suc n) =
    ⊎_elim (λ f. inl (f.0, omega arith, f.2))
    (λ (none : NoneDue τ t n). dite (dec_le (τ.D n) t) (λ p. inl (n, omega arith, p))
    (λ p. inr (λ i l. dite (ℕ_discrete i n) (λ e. rw e (omega arith)) (λ ne. none i (omega arith)))))
    (some_due τ t n)

module _ (τ : TaskSet) (ok : Lawful τ) where
  pub demand_mono : (s t : ℕ) → s ≤ t → demand τ s ≤ demand τ t
  unfolding demand
  demand_mono s t h =
      sum_le (row_demand_lem τ s) (row_demand_lem τ t) τ.rows
      (λ i l. mul-le-mul_left (τ.C i) (jobs_mono (τ.D i) (τ.T i) s t (omega (arith, ok i l)) h))

  -- what is due by t arrives in a first stretch L, or is due in the stretch after it
  pub demand_split : (L t : ℕ) → L ≤ t → demand τ t ≤ request τ L + demand τ (t - L)
  unfolding demand request
  demand_split L t h =
      rw (← sum_add (row_request_lem τ L) (row_demand_lem τ (t - L)) τ.rows)
      (sum_le (row_demand_lem τ t) (λ i. row_request_lem τ L i + row_demand_lem τ (t - L) i) τ.rows
      (λ i l. omega (arith, mul-le-mul_left (τ.C i) (jobs_split (τ.D i) (τ.T i) L t (omega (arith, ok i l)) h))))

  -- the first tick that is exceeded is a deadline, where the jobs of each row arrive at 0, T, 2 T, ..: there the demand rises
  pub demand_due : (t : ℕ) → t < demand τ t → ((x : ℕ) → x < t → demand τ x ≤ x)
      → (i : ℕ) × (j : ℕ) × (i < τ.rows) × (t ≡ j * τ.T i + τ.D i)
  unfolding demand
  demand_due zero over before = absurd (omega (arith, (demand_start τ ok)))
  demand_due (suc t) over before =
      let r = sum_lt (row_demand_lem τ t) (row_demand_lem τ (suc t)) τ.rows (omega (arith, before t (omega arith))) in
      (r.0, jobs_by_lem (τ.D r.0) (τ.T r.0) t, r.1, jobs_rise (τ.D r.0) (τ.T r.0) t (omega (arith, ok r.0 r.1)) (more r.0 r.2))
    where
      more : (i : ℕ) → row_demand_lem τ t i < row_demand_lem τ (suc t) i → jobs_by_lem (τ.D i) (τ.T i) t < jobs_by_lem (τ.D i) (τ.T i) (suc t)
      more i h =
          dite (dec_lt (jobs_by_lem (τ.D i) (τ.T i) t) (jobs_by_lem (τ.D i) (τ.T i) (suc t))) (λ l. l)
          (λ l. absurd (omega (arith, mul-le-mul_left {m = jobs_by_lem (τ.D i) (τ.T i) (suc t)} {n = jobs_by_lem (τ.D i) (τ.T i) t} (τ.C i) (omega arith))))

  -- The busy length is enough (§3.1): where all that arrives in a stretch L can be done in it, demand need be compared
  -- for t up to L only.
  pub busy_suffices : (L : ℕ) → 1 ≤ L → request τ L ≤ L → ((t : ℕ) → 1 ≤ t → t ≤ L → demand τ t ≤ t) → Feasible τ
  busy_suffices L one closed near =
      strong (λ t. demand τ t ≤ t)
      (λ t ih. dite (ℕ_discrete t 0) (λ z. rw z (demand_start τ ok))
      (λ ne. dite (dec_le t L) (λ l. near t (omega arith) l)
      (λ l. omega (arith, demand_split L t (omega arith), ih (t - L) (omega arith)))))

  -- A search for an overload that goes down from t may go on below the demand at t, since there is none between (the
  -- QPA test of Zhang and Burns).
  pub quick_search : (t t' : ℕ) → demand τ t ≤ t' → t' ≤ t → demand τ t' ≤ t'
  quick_search t t' lo hi = omega (arith, demand_mono t' t hi)

  -- A loose table is fit (§3.1): where no row's budget V is negative, that is C + interference ≤ D, the demand is never
  -- above t.
  pub loose_suffices : ((i : ℕ) → i < τ.rows → τ.C i + interference τ i (τ.D i) ≤ τ.D i) → Feasible τ
  loose_suffices loose =
      strong (λ t. demand τ t ≤ t)
      (λ t ih. ⊎_elim
      (λ (f : SomeDue τ t τ.rows).
      let i = f.0 in
      omega (
        arith,
        demand_split (τ.D i) t f.2,
        (interference_request τ ok) i f.1,
        loose i f.1,
        ok i f.1,
        ih (t - τ.D i) (omega (arith, ok i f.1)),
      ))
      (λ none. omega (arith, (demand_none τ ok) t none))
      (some_due τ t τ.rows))
