-- Why 63 minus the leading zeros of n to the eighth is g(n) (docs/SPECIFICATION.md §10.2). Assumes nothing.
use Rattle.std.specs.Prelude.{ℕ, ◌+◌, ◌-◌, ◌*◌, ◌%◌, ◌^◌, ◌≤◌, ◌<◌, ◌≡◌, refl}
use Rattle.std.proofs.Common.{sym, ap, subst, arith, mul-le-mul, pow-suc, pow_mono, pow-add, Fits}
use Rattle.std.proofs.Math.Nat.{pow-zero, pow-le-pow_left, one-le-pow, div-eq_of_lt, div-eq_of_lt-le}
use Rattle.std.specs.Int.Count.{count_leading_zeros}
use Rattle.std.proofs.lemmas.Nat.{leading_le, leading_top}
use Rattle.std.specs.Int.{w64}
use Rattle.meter.specs.Log.{Eighths, eighths_of, eighths_rule, eighths_is}
use Rattle.meter.specs.Formula.{HighestOne, ByLeadingZeros}

-- ---- `eighth_power`

pub power_is : (n : ℕ) → n * n * (n * n) * (n * n * (n * n)) ≡ n ^ 8
power_is n = sym (rw (pow-suc n 7, pow-suc n 6, pow-suc n 5, pow-suc n 4, pow-suc n 3, pow-suc n 2, pow-suc n 1, pow-suc n 0, pow-zero n) (omega arith))

module _ (n : ℕ) (few : n ≤ 255) where
  second_small : n * n ≤ 65025
  second_small = mul-le-mul {n₁ = n} {m₁ = n} {n₂ = 255} {m₂ = 255} few few

  fourth_small : n * n * (n * n) ≤ 4228250625
  fourth_small = mul-le-mul {n₁ = n * n} {m₁ = n * n} {n₂ = 65025} {m₂ = 65025} second_small second_small

  pub power_small : n ^ 8 < 2 ^ 64
  power_small = omega (arith, pow-le-pow_left few 8)

  pub second_fits : Fits w64 (n * n)
  second_fits = record { fits = omega (arith, second_small) }

  pub fourth_fits : Fits w64 (n * n * (n * n))
  fourth_fits = record { fits = omega (arith, fourth_small) }

  pub power_fits : Fits w64 (n * n * (n * n) * (n * n * (n * n)))
  power_fits = record { fits = omega (arith, power_is n, power_small) }

pub ruleset power_laws = (power_is, second_fits, fourth_fits, power_fits)

-- ---- `highest_one`

pub zeros_fits : (x : ℕ) → Fits w64 (count_leading_zeros 64 x)
zeros_fits x = record { fits = omega (arith, leading_le 64 x) }

module _ (x : ℕ) (some : 1 ≤ x) (few : Fits w64 x) where
  pub zeros_few : count_leading_zeros 64 x ≤ 63
  zeros_few = omega (arith, (leading_top 64 x some few.fits).1)

  -- a place that makes 63 with them
  pub highest_is : (r : ℕ) → r + count_leading_zeros 64 x ≡ 63 → (2 ^ r ≤ x) × (x < 2 ^ (r + 1))
  highest_is r e =
      let top = leading_top 64 x some few.fits in
      (subst (λ (k : ℕ). 2 ^ k ≤ x) (omega (arith, top.1)) top.2, subst (λ (k : ℕ). x < 2 ^ k) (omega (arith, top.1)) top.3)

-- ---- `eighths`

pub power_some : (n x : ℕ) → 1 ≤ n → x ≡ n ^ 8 → 1 ≤ x
power_some n x some e = omega (arith, one-le-pow 8 n some)

pub eighths_by : (n x r : ℕ) → x ≡ n ^ 8 → (2 ^ r ≤ x) × (x < 2 ^ (r + 1)) → Eighths n r
eighths_by n x r e p = record { low = rw (← e) p.0; high = rw (← e) p.1 }

pub ruleset eighths_laws = (power_some, eighths_by)

-- ---- the statements

pub by_leading_zeros : ByLeadingZeros
by_leading_zeros n some few =
    let x = n ^ 8 in
    let one = one-le-pow 8 n some in
    let small : Fits w64 x = record { fits = power_small n few } in
    let zeros = zeros_few x one small in
    let r = 63 - count_leading_zeros 64 x in
    (power_small n few, omega (arith, zeros, eighths_is n r some few (eighths_by n x r refl (highest_is x one small r (omega (arith, zeros))))))

pub highest_one : HighestOne
highest_one n some few =
    let e = eighths_rule n some few in
    let r = eighths_of n in (
      ap (λ (q : ℕ). q % 2) (div-eq_of_lt-le {k = 1} (2 ^ r) {m = n ^ 8} (omega (arith, e.low)) (omega (arith, e.high, pow-add 2 r 1))),
      λ p after. ap (λ (q : ℕ). q % 2) (div-eq_of_lt {n = n ^ 8} {m = 2 ^ p} (omega (arith, e.high, pow_mono {i = r + 1} {j = p} (omega arith)))),
    )
