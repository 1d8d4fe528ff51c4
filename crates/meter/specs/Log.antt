-- Eight times the base-2 logarithm, rounded down (docs/SPECIFICATION.md §10.2). Assumes nothing.
use Rattle.std.specs.Prelude.{ℕ, ◌+◌, ◌-◌, ◌^◌, ◌≤◌, ◌<◌, ◌≡◌, refl, true, ltb}
use Rattle.std.proofs.Common.{sym, ◌∙◌, true≢false, arith, pow_mono, ltb-true, ltb-false, lt-ltb}
use Rattle.std.proofs.Math.Logic.{dite}
use Rattle.std.proofs.Math.Decide.{dec_lt}
use Rattle.std.proofs.Math.Nat.{pow-le-pow_left, one-le-pow}
use Rattle.bounded.specs.Least.{least_from, least_at, least_before}

-- n to the eighth is at least 2 to the power r, and below twice that power
pub record Eighths (n r : ℕ) : Type 0 where
  pub low : 2 ^ r ≤ n ^ 8
  pub high : n ^ 8 < 2 ^ (r + 1)

-- g(n): the least r with n to the eighth below 2 to the power r + 1
unfoldable pub eighths_of : ℕ → ℕ
eighths_of n = least_from (λ r. ltb (n ^ 8) (2 ^ (r + 1))) 0 64

-- ---- the rule fixes the number

pub eighths_one : (n a b : ℕ) → Eighths n a → Eighths n b → a ≡ b
eighths_one n a b p q =
    dite (dec_lt a b) (λ l. absurd (omega (arith, p.high, q.low, pow_mono {i = a + 1} {j = b} (omega arith))))
    (λ l. dite (dec_lt b a) (λ k. absurd (omega (arith, q.high, p.low, pow_mono {i = b + 1} {j = a} (omega arith)))) (λ k. omega arith))

-- and `eighths_of` keeps it
pub eighths_rule : (n : ℕ) → 1 ≤ n → n ≤ 255 → Eighths n (eighths_of n)
unfolding eighths_of
eighths_rule n some few =
    let top : n ^ 8 ≤ 255 ^ 8 = pow-le-pow_left few 8 in
    let last : ltb (n ^ 8) (2 ^ (63 + 1)) ≡ true = lt-ltb (n ^ 8) (2 ^ (63 + 1)) (omega arith) in
    let r = least_from (λ r. ltb (n ^ 8) (2 ^ (r + 1))) 0 64 in
    let below : r < 64 =
    dite (dec_lt r 64) (λ l. l)
    (λ l. absurd (true≢false (sym last ∙ least_before (λ r. ltb (n ^ 8) (2 ^ (r + 1))) 0 64 63 (omega arith) (omega arith)))) in
    record {
      low = dite (dec_lt 0 r)
          (λ l.
          let e : r - 1 + 1 ≡ r = omega arith in
          let f = ltb-false (n ^ 8) (2 ^ (r - 1 + 1)) (least_before (λ r. ltb (n ^ 8) (2 ^ (r + 1))) 0 64 (r - 1) (omega arith) (omega arith)) in
          rw e at f)
          (λ l. let z : r ≡ 0 = omega arith in rw z (omega (arith, one-le-pow 8 n (omega arith))));
      high = ltb-true (n ^ 8) (2 ^ (r + 1)) (least_at (λ r. ltb (n ^ 8) (2 ^ (r + 1))) 0 64 (omega arith));
    }

pub eighths_is : (n r : ℕ) → 1 ≤ n → n ≤ 255 → Eighths n r → r ≡ eighths_of n
eighths_is n r some few e = eighths_one n r (eighths_of n) e (eighths_rule n some few)

-- it never falls
pub eighths_mono : (a b : ℕ) → 1 ≤ a → a ≤ b → b ≤ 255 → eighths_of a ≤ eighths_of b
eighths_mono a b some le few =
    let p = eighths_rule a some (omega arith) in
    let q = eighths_rule b (omega arith) few in
    let m : a ^ 8 ≤ b ^ 8 = pow-le-pow_left le 8 in
    dite (dec_lt (eighths_of b) (eighths_of a))
    (λ l. absurd (omega (arith, p.low, q.high, pow_mono {i = eighths_of b + 1} {j = eighths_of a} (omega arith))))
    (λ l. omega arith)

-- and is at most 63
pub eighths_most : (n r : ℕ) → n ≤ 255 → Eighths n r → r ≤ 63
eighths_most n r few e =
    let top : n ^ 8 ≤ 255 ^ 8 = pow-le-pow_left few 8 in
    dite (dec_lt 63 r) (λ l. absurd (omega (arith, e.low, pow_mono {i = 64} {j = r} (omega arith)))) (λ l. omega arith)

pub eighths_first : eighths_of 1 ≡ 0
unfolding eighths_of least_from
eighths_first = refl
