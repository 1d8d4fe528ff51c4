-- A quotient rounded up, and its laws. Assumes nothing.
use Rattle.std.specs.Prelude.{ℕ, suc, ◌+◌, ◌-◌, ◌*◌, ◌/◌, ◌≤◌, ◌≡◌}
use Rattle.std.proofs.Common.{div-lt_iff_lt-mul, arith}
use Rattle.std.proofs.Math.Nat.{lt-div-mul-add, add-div_right}

-- a / b, rounded up
unfoldable pub ceil_div : ℕ → ℕ → ℕ
ceil_div a b = (a + (b - 1)) / b

-- it is the least m with a ≤ m * b
pub ceil_after : (a b : ℕ) → 1 ≤ b → a ≤ ceil_div a b * b
unfolding ceil_div
ceil_after a b h = omega (arith, lt-div-mul-add {a = a + (b - 1)} {b = b} h)

pub ceil_least : (a b m : ℕ) → 1 ≤ b → a ≤ m * b → ceil_div a b ≤ m
unfolding ceil_div
ceil_least a b m h l = omega (arith, (div-lt_iff_lt-mul {k = b} {x = a + (b - 1)} {y = suc m} h).1 (omega arith))

-- without a sum that could wrap
pub ceil_rest : (a b : ℕ) → 1 ≤ a → 1 ≤ b → ceil_div a b ≡ (a - 1) / b + 1
unfolding ceil_div
ceil_rest a b h l =
    let e : a + (b - 1) ≡ a - 1 + b = omega arith in
    rw e (add-div_right (a - 1) {k = b} (omega arith))
