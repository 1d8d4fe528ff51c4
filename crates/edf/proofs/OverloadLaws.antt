-- Each table whose demand exceeds some t is overloaded (docs/SPECIFICATION.md §4). Proofs only. Assumes nothing.
use Prim.Native.Nat.{ℕ, zero, suc, ◌+◌, ◌*◌, ◌/◌, ◌%◌, ◌≤◌, ◌<◌}
use Rattle.std.specs.Prelude.{◌≡◌, refl, false, List, [], ◌∷◌, ◌++◌, eqb, length}
use Rattle.std.proofs.Math.Path.{ap}
use Rattle.std.proofs.Common.{◌∙◌, inl, mod-eq_of_lt, div-lt_iff_lt-mul, length-append, ne_eqb}
use Rattle.std.proofs.Math.Logic.{dite}
use Rattle.std.proofs.Math.Nat.{le_trans, mul-le-mul_right, mul-add-div_right, mul-add-mod_self_right, div-eq_of_lt, div-add-mod'}
use native.Mathlib.Omega.{arith}
use Rattle.std.proofs.Math.Decide.{dec_lt, ℕ_discrete}
use Rattle.std.proofs.Math.ListN.{get_or-append}
use Rattle.std.proofs.lemmas.List.{get_or_at}
use Rattle.bounded.specs.Sum.{sum_to, sum_le, sum_add, sum_lt, sum_const, sum_zero, sum_shift, sum_upto}
use Rattle.bounded.specs.Tests.{gate, gate_off, gate_le}
use Rattle.edf.specs.Jobs.{jobs_by_lem}
use Rattle.edf.proofs.JobsLaws.{jobs_last, jobs_few}
use Rattle.edf.specs.Demand.{TaskSet, Lawful, row_demand_lem, demand}
use Rattle.edf.specs.Arrivals.{Arrival, at, Allowed, Tick, to, none, Order, goes_to, served, InTime, Unservable}

-- 1 where the tick x goes to row i, and else 0
abbrev share : Order → ℕ → ℕ → ℕ
share w i x = gate (goes_to i (w x)) 1

served_add : (w : Order) (i a len : ℕ) → sum_to (share w i) (a + len) ≡ sum_to (share w i) a + served w i a len
unfolding served
served_add w i a len = sum_shift (share w i) a len

-- the windows of one row's jobs, each from its arrival up to its deadline, do not overlap
windows : (w : Order) (i D T m : ℕ) → D ≤ T → sum_to (λ j. served w i (j * T) D) (suc m) ≤ sum_to (share w i) (m * T + D)
unfolding sum_to
windows w i D T zero h = omega (arith, served_add w i (0 * T) D)
windows w i D T (suc m) h =
    let ih = windows w i D T m h in
    omega (arith, served_add w i (suc m * T) D, sum_upto (share w i) (m * T + D) (suc m * T) (omega arith))

-- and those of the jobs that are due by t lie before t
row_served : (w : Order) (i D T t : ℕ) → 1 ≤ T → D ≤ T → sum_to (λ j. served w i (j * T) D) (jobs_by_lem D T t) ≤ sum_to (share w i) t
unfolding sum_to
row_served w i D T t p h = go (jobs_by_lem D T t) refl
  where
    go : (m : ℕ) → jobs_by_lem D T t ≡ m → sum_to (λ j. served w i (j * T) D) m ≤ sum_to (share w i) t
    go zero e = omega arith
    go (suc m) e =
        le_trans (windows w i D T m h)
        (sum_upto (share w i) (m * T + D) t (jobs_last D T t m p (omega arith)))

-- a tick goes to one row at most
no_row : (j n : ℕ) → n ≤ j → sum_to (λ i. gate (eqb i j) 1) n ≡ 0
no_row j n h = sum_zero (λ i. gate (eqb i j) 1) n (λ i l. gate_off (eqb i j) 1 (ne_eqb i j (λ e. omega arith)))

one_row : (j n : ℕ) → sum_to (λ i. gate (eqb i j) 1) n ≤ 1
unfolding sum_to
one_row j zero = omega arith
one_row j (suc n) =
    dite (ℕ_discrete n j)
    (λ e. omega (arith, no_row j n (omega arith), gate_le (eqb n j) 1))
    (λ ne. omega (arith, one_row j n, gate_off (eqb n j) 1 (ne_eqb n j ne)))

one_share : (x : Tick) (n : ℕ) → sum_to (λ i. gate (goes_to i x) 1) n ≤ 1
unfolding goes_to
one_share (to j) n = one_row j n
one_share none n = omega (arith, sum_zero (λ i. gate false 1) n (λ i l. gate_off false 1 refl))

-- so all rows together have no more than t of the ticks before t
rows_served : (w : Order) (n t : ℕ) → sum_to (λ i. sum_to (share w i) t) n ≤ t
unfolding sum_to
rows_served w n zero = omega (arith, sum_zero (λ i. 0) n (λ i l. refl))
rows_served w n (suc t) =
    omega (arith, rows_served w n t, one_share (w t) n, sum_add (λ i. sum_to (share w i) t) (λ i. share w i t) n)

-- ---- the arrivals

tabulate : (ℕ → Arrival) → ℕ → List Arrival
tabulate f zero = []
tabulate f (suc m) = tabulate f m ++ (f m ∷ [])

tabulate_length : (f : ℕ → Arrival) (m : ℕ) → length (tabulate f m) ≡ m
unfolding tabulate
tabulate_length f zero = refl
tabulate_length f (suc m) = omega (arith, length-append (tabulate f m) (f m ∷ []), tabulate_length f m)

tabulate_at : (f : ℕ → Arrival) (m p : ℕ) → p < m → at (tabulate f m) p ≡ f p
unfolding tabulate
tabulate_at f zero p h = absurd (omega arith)
tabulate_at f (suc m) p h =
    dite (dec_lt p m)
    (λ k. get_or-append (tabulate f m) (f m ∷ []) _ p (omega (arith, tabulate_length f m)) ∙ tabulate_at f m p k)
    (λ k. let e : p ≡ m = omega arith in rw e (get_or_at (tabulate f m) (f m) [] _ m (tabulate_length f m)))

-- the j-th job of row i, from 0, where the jobs arrive at 0, T, 2 T, ..
job : TaskSet → ℕ → ℕ → Arrival
job τ i j = record { row = i; tick = j * τ.T i }

-- the first n jobs of every row, row by row
pattern : TaskSet → ℕ → ℕ → Arrival
pattern τ n p = job τ (p / n) (p % n)

early : TaskSet → ℕ → List Arrival
early τ n = tabulate (pattern τ n) (τ.rows * n)

module _ (τ : TaskSet) (n : ℕ) (some : 1 ≤ n) where
  early_at : (p : ℕ) → p < length (early τ n) → at (early τ n) p ≡ job τ (p / n) (p % n)
  unfolding early pattern
  early_at p h = tabulate_at (pattern τ n) (τ.rows * n) p (omega (arith, tabulate_length (pattern τ n) (τ.rows * n)))

  early_known : (p : ℕ) → p < length (early τ n) → (at (early τ n) p).row < τ.rows
  unfolding early job
  early_known p h =
      rw (early_at p h)
      ((div-lt_iff_lt-mul {k = n} {x = p} {y = τ.rows} some).1 (omega (arith, tabulate_length (pattern τ n) (τ.rows * n))))

  early_apart : (p q : ℕ) → p < q → q < length (early τ n) → (at (early τ n) p).row ≡ (at (early τ n) q).row
      → (at (early τ n) p).tick + τ.T (at (early τ n) p).row ≤ (at (early τ n) q).tick
  unfolding job
  early_apart p q h l same =
      let a = early_at p (omega arith) in
      let b = early_at q l in
      let e : p / n ≡ q / n = rw (a, b) at same in
      let later : p % n < q % n = omega (arith, div-add-mod' p n, div-add-mod' q n, ap (λ (z : ℕ). z * n) e) in
      rw (a, b, e) (omega (arith, mul-le-mul_right {m = suc (p % n)} {n = q % n} (τ.T (q / n)) later))

  early_allowed : Allowed τ (early τ n)
  early_allowed = record { known = early_known; apart = λ p q h l e. inl (early_apart p q h l e) }

  -- the j-th job of row i is one of them
  early_has : (i j : ℕ) → i < τ.rows → j < n → (p : ℕ) × (p < length (early τ n)) × (at (early τ n) p ≡ job τ i j)
  early_has i j h l =
      let e : (i * n + j) / n ≡ i = omega (arith, mul-add-div_right {m = n} some i j, div-eq_of_lt {n = j} {m = n} l) in
      let f : (i * n + j) % n ≡ j = mul-add-mod_self_right i n j ∙ mod-eq_of_lt l in
      let u : i * n + j < length (early τ n) =
      unfold early in
      omega (
        arith,
        tabulate_length (pattern τ n) (τ.rows * n),
        mul-le-mul_right {m = suc i} {n = τ.rows} n h,
      ) in
      (i * n + j, u, early_at (i * n + j) u ∙ rw (e, f))

-- ---- the refusal

module _ (τ : TaskSet) (ok : Lawful τ) (t : ℕ) (over : t < demand τ t) (w : Order) where
  -- what the order of work gives the j-th job of row i in time, and how many jobs of row i are due by t
  given : ℕ → ℕ → ℕ
  given i j = served w i (j * τ.T i) (τ.D i)

  jobs : ℕ → ℕ
  jobs i = jobs_by_lem (τ.D i) (τ.T i) t

  given_bound : sum_to (λ i. sum_to (given i) (jobs i)) τ.rows ≤ t
  unfolding given jobs
  given_bound =
      le_trans
      (sum_le (λ i. sum_to (given i) (jobs i)) (λ i. sum_to (share w i) t) τ.rows
      (λ i l. row_served w i (τ.D i) (τ.T i) t (omega (arith, ok i l)) (omega (arith, ok i l))))
      (rows_served w τ.rows t)

  -- so some row's jobs get less than their demand, and one of them less than its C
  late : (i : ℕ) × (i < τ.rows) × (j : ℕ) × (j < jobs i) × (given i j < τ.C i)
  unfolding demand jobs
  late =
      let r = sum_lt (λ i. sum_to (given i) (jobs i)) (row_demand_lem τ t) τ.rows (omega (arith, given_bound)) in
      let i = r.0 in
      let q = sum_lt (given i) (λ j. τ.C i) (jobs i) (omega (arith, r.2, sum_const (τ.C i) (jobs i))) in
      (i, r.1, q.0, q.1, q.2)

  missed : (p : ℕ) × (p < length (early τ (suc t))) × (InTime τ w (at (early τ (suc t)) p) → ⊥)
  unfolding given jobs job
  missed =
      let r = late in
      let i = r.0 in
      let few = jobs_few (τ.D i) (τ.T i) t (omega (arith, ok i r.1)) in
      let p = early_has τ (suc t) (omega arith) i r.2 r.1 (omega (arith, few, r.3)) in
      (p.0, p.1, rw p.2 (λ h. omega (arith, r.4)))

-- a table whose demand exceeds some t, as one refused with 3 has it, is overloaded
pub overload : (τ : TaskSet) → Lawful τ → (t : ℕ) → t < demand τ t → Unservable τ
overload τ ok t over = (early τ (suc t), early_allowed τ (suc t) (omega arith), missed τ ok t over)
