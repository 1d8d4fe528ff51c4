-- How many indices pass a test, and which numbers they have. Assumes nothing.
use Prim.Native.Nat.{ℕ, zero, suc, ◌+◌, ◌≤◌, ◌<◌}
use Rattle.std.specs.Prelude.{◌≡◌, refl, Bool, true, false, ◌&&◌, eqb}
use Rattle.std.proofs.Common.{sym, ◌∙◌, ltb-true, eqb-true, lt-ltb, le-ltb, eq-eqb}
use Rattle.std.proofs.Math.Logic.{dite}
use native.Mathlib.Omega.{arith}
use Rattle.std.proofs.Math.Decide.{ℕ_discrete}
use Rattle.std.proofs.Math.Dec.{ltb}
use Rattle.bounded.specs.Tests.{both, and-true, and_both, gate, gate_on, gate_off, gate_le}
use Rattle.bounded.specs.Sum.{sum_to, sum_le, sum_add, sum_const, sum_zero, sum_le_at, sum_lt}

pub gate_so : (a b : Bool) → (a ≡ true → b ≡ true) → gate a 1 ≤ gate b 1
gate_so a b h =
    both a (λ e. omega (arith, gate_le a 1, gate_on b 1 (h e))) (λ e. omega (arith, gate_off a 1 e))

pub gate_some : (a : Bool) → 0 < gate a 1 → a ≡ true
gate_some a h = both a (λ e. e) (λ e. absurd (omega (arith, gate_off a 1 e)))

-- at most one index passes
sum_one : (p : ℕ → Bool) (n : ℕ) → ((i j : ℕ) → i < n → j < n → p i ≡ true → p j ≡ true → i ≡ j)
    → sum_to (λ i. gate (p i) 1) n ≤ 1
unfolding sum_to
sum_one p zero h = omega arith
sum_one p (suc n) h =
    both (p n)
    (λ e. omega (
      arith,
      gate_le (p n) 1,
      sum_zero (λ i. gate (p i) 1) n
          (λ i l. gate_off (p i) 1 (both (p i) (λ t. absurd (omega (arith, h i n (omega arith) (omega arith) t e))) (λ t. t))),
    ))
    (λ e.
    let ih = sum_one p n (λ i j k l. h i j (omega arith) (omega arith)) in
    omega (arith, gate_off (p n) 1 e))

-- ---- m indices, or more, pass a test; if each has a number below m and no two have the same, every number below m is one
-- of theirs

-- 1 where i passes c and its number f i is below k
abbrev lower : (ℕ → Bool) → (ℕ → ℕ) → ℕ → ℕ → ℕ
lower c f k i = gate (c i && ltb (f i) k) 1

-- 1 where i passes c and its number is k
abbrev exact : (ℕ → Bool) → (ℕ → ℕ) → ℕ → ℕ → ℕ
exact c f k i = gate (c i && eqb (f i) k) 1

module _ (c : ℕ → Bool) (f : ℕ → ℕ) (n : ℕ) where
  -- a number below k + 1 is below k, or it is k
  lower_next : (k i : ℕ) → lower c f (suc k) i ≤ lower c f k i + exact c f k i
  lower_next k i =
      both (c i)
      (λ e. simp e
      (dite (ℕ_discrete (f i) k)
      (λ q. simp (eq-eqb (f i) k q) (omega (arith, gate_le (ltb (f i) (suc k)) 1, gate_on true 1 refl)))
      (λ q.
      let h = gate_so (ltb (f i) (suc k)) (ltb (f i) k) (λ t. lt-ltb (f i) k (omega (arith, ltb-true (f i) (suc k) t))) in
      omega arith)))
      (λ e. simp e (omega (arith, gate_off false 1 refl)))

  -- how many have a number below k: at most those with 0, 1, .., k - 1 together
  lower_sum : (k : ℕ) → sum_to (lower c f k) n ≤ sum_to (λ x. sum_to (exact c f x) n) k
  unfolding sum_to
  lower_sum zero =
      omega (
        arith,
        sum_zero (lower c f 0) n
            (λ i l. gate_off (c i && ltb (f i) 0) 1
            (both (c i) (λ e. simp e (le-ltb (f i) 0 (omega arith))) (λ e. simp e))),
      )
  lower_sum (suc k) =
      let ih = lower_sum k in
      omega (
        arith,
        sum_le (lower c f (suc k)) (λ i. lower c f k i + exact c f k i) n (λ i l. lower_next k i),
        sum_add (lower c f k) (exact c f k) n,
      )

  module _ (m : ℕ) (many : m ≤ sum_to (λ i. gate (c i) 1) n)
      (below : (i : ℕ) → i < n → c i ≡ true → f i < m)
      (apart : (i j : ℕ) → i < n → j < n → c i ≡ true → c j ≡ true → f i ≡ f j → i ≡ j) where
    -- all have a number below m,
    all_lower : m ≤ sum_to (λ x. sum_to (exact c f x) n) m
    all_lower =
        omega (
          arith,
          sum_le (λ i. gate (c i) 1) (lower c f m) n
              (λ i l. gate_so (c i) (c i && ltb (f i) m) (λ e. and_both (c i) _ e (lt-ltb (f i) m (below i l e)))),
          lower_sum m,
        )

    -- at most one has the number k,
    exact_one : (k : ℕ) → sum_to (exact c f k) n ≤ 1
    exact_one k =
        sum_one (λ i. c i && eqb (f i) k) n
        (λ i j u v a b.
        let x = and-true (c i) _ a in
        let y = and-true (c j) _ b in
        apart i j u v x.0 y.0 (eqb-true (f i) k x.1 ∙ sym (eqb-true (f j) k y.1)))

    -- so one has it, or the others could not make m
    exact_some : (k : ℕ) → k < m → 0 < sum_to (exact c f k) n
    exact_some k h =
        omega (
          arith,
          all_lower,
          sum_le_at (λ x. sum_to (exact c f x) n) (λ x. 1) m k h (λ x l ne. exact_one x),
          sum_const 1 m,
        )

    pub taken : (k : ℕ) → k < m → (i : ℕ) × (i < n) × ((c i && eqb (f i) k) ≡ true)
    taken k h =
        let z = sum_zero (λ i. 0) n (λ i l. refl) in
        let r = sum_lt (λ i. 0) (exact c f k) n (omega (arith, exact_some k h)) in
        (r.0, r.1, gate_some _ r.2)
