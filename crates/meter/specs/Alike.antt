-- Laws of the differing ticks, and of the number of stretches that are alike. Assumes nothing.
use Rattle.std.specs.Prelude.{ℕ, suc, ◌+◌, ◌≤◌, ◌<◌, ◌≡◌, refl, List, leb, eqb}
use Rattle.std.proofs.Math.Path.{ap}
use Rattle.std.proofs.Common.{◌∙◌, le-leb, eq-eqb}
use Rattle.std.proofs.Math.Bool.{not}
use native.Mathlib.Omega.{arith}
use Rattle.bounded.specs.Tests.{gate, gate_on, gate_off, gate_le}
use Rattle.bounded.specs.Sum.{sum_to, sum_eq, sum_shift, sum_le, sum_const, sum_term, sum_zero}
use Rattle.meter.specs.declared.Shape.{Shape}
use Rattle.meter.specs.Meter.{differ_by, row_in, differs, differing, alike}

one_first : (f : ℕ → ℕ) (m : ℕ) → sum_to (λ x. f (1 + x)) m + f 0 ≡ sum_to f m + f m
unfolding sum_to
one_first f m =
    let s : sum_to f (1 + m) ≡ sum_to f 1 + sum_to (λ x. f (1 + x)) m = sum_shift f 1 m in
    let e : 1 + m ≡ suc m = omega arith in
    let n : sum_to f (1 + m) ≡ sum_to f m + f m = ap (sum_to f) e in
    omega arith

module _ (a : List ℕ) (h : Shape) where
  module _ (k j t : ℕ) where
    -- one tick on: tick t leaves the interval, and the tick after its end joins it
    pub differing_next : differing a h k j (t + 1) + differs a h k j t ≡ differing a h k j t + differs a h k j (t + h.window)
    unfolding differing
    differing_next =
        let e : sum_to (λ x. differs a h k j (t + 1 + x)) h.window ≡ sum_to (λ x. differs a h k j (t + (1 + x))) h.window =
        sum_eq (λ x. differs a h k j (t + 1 + x)) (λ x. differs a h k j (t + (1 + x))) h.window
        (λ x l. let q : t + 1 + x ≡ t + (1 + x) = omega arith in ap (differs a h k j) q) in
        let z : t + 0 ≡ t = omega arith in
        let f : differs a h k j (t + 0) ≡ differs a h k j t = ap (differs a h k j) z in
        omega (arith, one_first (λ x. differs a h k j (t + x)) h.window)

    pub differing_most : differing a h k j t ≤ h.window
    unfolding differing differs differ_by
    differing_most =
        omega (
          arith,
          sum_le (λ x. differs a h k j (t + x)) (λ x. 1) h.window (λ x l. gate_le _ 1),
          sum_const 1 h.window,
        )

    -- stretches with the same rows do not differ
    pub differing_none : ((x : ℕ) → row_in a h k x ≡ row_in a h j x) → differing a h k j t ≡ 0
    unfolding differing differs differ_by
    differing_none same =
        sum_zero (λ x. differs a h k j (t + x)) h.window
        (λ x l. gate_off (not (eqb (row_in a h k (t + x)) (row_in a h j (t + x)))) 1
        (ap not (eq-eqb (row_in a h k (t + x)) (row_in a h j (t + x)) (same (t + x)))))

    -- and count as alike, whatever the threshold
    like_one : differing a h k j t ≡ 0 → gate (leb (differing a h k j t) h.threshold) 1 ≡ 1
    like_one e = gate_on (leb (differing a h k j t) h.threshold) 1 (le-leb (differing a h k j t) h.threshold (omega arith))

  -- a stretch is like itself
  pub alike_some : (k t : ℕ) → k < h.stretches → 1 ≤ alike a h k t
  unfolding alike
  alike_some k t l =
      omega (
        arith,
        sum_term (λ j. gate (leb (differing a h k j t) h.threshold) 1) h.stretches k l,
        like_one k k t (differing_none k k t (λ x. refl)),
      )

  pub alike_few : (k t : ℕ) → alike a h k t ≤ h.stretches
  unfolding alike
  alike_few k t =
      omega (
        arith,
        sum_le (λ j. gate (leb (differing a h k j t) h.threshold) 1) (λ j. 1) h.stretches (λ j l. gate_le _ 1),
        sum_const 1 h.stretches,
      )

  -- a stretch from which none differs is like all
  pub alike_all : (k t : ℕ) → ((j : ℕ) → j < h.stretches → differing a h k j t ≡ 0) → alike a h k t ≡ h.stretches
  unfolding alike
  alike_all k t none =
      sum_eq (λ j. gate (leb (differing a h k j t) h.threshold) 1) (λ j. 1) h.stretches (λ j u. like_one k j t (none j u))
      ∙ sum_const 1 h.stretches
      ∙ omega arith
