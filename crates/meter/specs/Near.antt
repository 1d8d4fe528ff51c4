-- How far the meter is from the exact sum of eight times the logarithm of K / c (docs/SPECIFICATION.md §10.3). Assumes nothing.
use Rattle.std.specs.Prelude.{ℕ, ◌+◌, ◌-◌, ◌*◌, ◌^◌, ◌≤◌, ◌<◌, ◌≡◌, List}
use Rattle.std.proofs.Common.{ap, ◌∙◌, mul-le-mul_left, arith, pow-add}
use Rattle.bounded.specs.Product.{product_to, product_le, product_eq, product_mul, product_const, product_power, power_power}
use Rattle.meter.specs.declared.Shape.{Shape}
use Rattle.meter.specs.Log.{eighths_of, eighths_rule, eighths_mono}
use Rattle.meter.specs.Meter.{alike, gap_at, stretch_of, meter_of}
use Rattle.meter.specs.Rule.{measured}
use Rattle.meter.specs.Alike.{alike_some, alike_few}
use Rattle.meter.specs.Entropy.{product_of, Near}

-- one term, with d = g(K) - g(c): 2 ^ d is K ^ 8 / c ^ 8, within a factor of 2
module _ (K c : ℕ) (one : 1 ≤ c) (most : c ≤ K) (few : K ≤ 255) where
  power_term : 2 ^ (eighths_of K + 1) ≡ 2 ^ (eighths_of K - eighths_of c) * 2 ^ (eighths_of c + 1)
  power_term =
      let e : eighths_of K + 1 ≡ eighths_of K - eighths_of c + (eighths_of c + 1) = omega (arith, eighths_mono c K one most few) in
      ap (λ (x : ℕ). 2 ^ x) e ∙ pow-add 2 (eighths_of K - eighths_of c) (eighths_of c + 1)

  term_most : 2 ^ (eighths_of K - eighths_of c) * c ^ 8 ≤ 2 * K ^ 8
  term_most =
      let p = eighths_rule K (omega arith) few in
      let q = eighths_rule c one (omega arith) in
      let m = mul-le-mul_left {m = c ^ 8} {n = 2 ^ (eighths_of c + 1)} (2 ^ (eighths_of K - eighths_of c)) (omega (arith, q.high)) in
      omega (arith, power_term, p.low, pow-add 2 (eighths_of K) 1)

  term_least : K ^ 8 ≤ 2 ^ (eighths_of K - eighths_of c) * (2 * c ^ 8)
  term_least =
      let p = eighths_rule K (omega arith) few in
      let q = eighths_rule c one (omega arith) in
      let m = mul-le-mul_left {m = 2 ^ (eighths_of c + 1)} {n = 2 * c ^ 8} (2 ^ (eighths_of K - eighths_of c)) (omega (arith, q.low, pow-add 2 (eighths_of c) 1)) in
      omega (arith, power_term, p.high)

module _ (a : List ℕ) (h : Shape) where
  -- the product over each tick of each stretch
  abbrev all : (ℕ → ℕ → ℕ) → ℕ
  all f = product_to (λ k. product_to (f k) h.ticks) h.stretches

  all_le : (f g : ℕ → ℕ → ℕ) → ((k t : ℕ) → k < h.stretches → f k t ≤ g k t) → all f ≤ all g
  all_le f g le =
      product_le (λ k. product_to (f k) h.ticks) (λ k. product_to (g k) h.ticks) h.stretches
      (λ k l. product_le (f k) (g k) h.ticks (λ t u. le k t l))

  all_mul : (f g : ℕ → ℕ → ℕ) → all (λ k t. f k t * g k t) ≡ all f * all g
  all_mul f g =
      product_eq (λ k. product_to (λ t. f k t * g k t) h.ticks) (λ k. product_to (f k) h.ticks * product_to (g k) h.ticks) h.stretches
      (λ k l. product_mul (f k) (g k) h.ticks)
      ∙ product_mul (λ k. product_to (f k) h.ticks) (λ k. product_to (g k) h.ticks) h.stretches

  all_const : (b : ℕ) → all (λ k t. b) ≡ b ^ (h.stretches * h.ticks)
  all_const b =
      product_eq (λ k. product_to (λ t. b) h.ticks) (λ k. b ^ h.ticks) h.stretches (λ k l. product_const b h.ticks)
      ∙ product_const (b ^ h.ticks) h.stretches
      ∙ power_power b h.ticks h.stretches

  all_power : all (λ k t. 2 ^ gap_at a h k t) ≡ 2 ^ meter_of a h
  unfolding meter_of stretch_of
  all_power =
      product_eq (λ k. product_to (λ t. 2 ^ gap_at a h k t) h.ticks) (λ k. 2 ^ stretch_of a h k) h.stretches
      (λ k l. product_power 2 (gap_at a h k) h.ticks)
      ∙ product_power 2 (stretch_of a h) h.stretches

  -- 2 ^ meter, beside other factors
  meter_times : (f : ℕ → ℕ → ℕ) → all (λ k t. 2 ^ gap_at a h k t * f k t) ≡ 2 ^ meter_of a h * all f
  meter_times f = all_mul (λ k t. 2 ^ gap_at a h k t) f ∙ ap (λ (x : ℕ). x * all f) all_power

  -- 2 to the power K × L, beside other factors
  twice : (f : ℕ → ℕ → ℕ) → all (λ k t. 2 * f k t) ≡ 2 ^ (h.stretches * h.ticks) * all f
  twice f = all_mul (λ k t. 2) f ∙ ap (λ (x : ℕ). x * all f) (all_const 2)

  module _ (few : h.stretches ≤ 255) where
    abbrev c8 : ℕ → ℕ → ℕ
    c8 k t = alike a h k t ^ 8

    above : 2 ^ meter_of a h * product_of a h ≤ 2 ^ (h.stretches * h.ticks) * (h.stretches ^ 8) ^ (h.stretches * h.ticks)
    unfolding product_of gap_at
    above =
        rw (← meter_times c8, ← all_const (h.stretches ^ 8), ← twice (λ k t. h.stretches ^ 8))
        (all_le (λ k t. 2 ^ gap_at a h k t * c8 k t) (λ k t. 2 * h.stretches ^ 8)
        (λ k t l. term_most h.stretches (alike a h k t) (alike_some a h k t l) (alike_few a h k t) few))

    below : (h.stretches ^ 8) ^ (h.stretches * h.ticks) ≤ 2 ^ meter_of a h * (2 ^ (h.stretches * h.ticks) * product_of a h)
    unfolding product_of gap_at
    below =
        rw (← twice c8, ← meter_times (λ k t. 2 * c8 k t), ← all_const (h.stretches ^ 8))
        (all_le (λ k t. h.stretches ^ 8) (λ k t. 2 ^ gap_at a h k t * (2 * c8 k t))
        (λ k t l. term_least h.stretches (alike a h k t) (alike_some a h k t l) (alike_few a h k t) few))

pub near : Near
near a h x e =
    let m = measured a h x e in
    rw m.1 (above a h m.0.few, below a h m.0.few)
