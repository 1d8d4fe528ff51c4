-- More laws of specs/Quotient.antt: they rest on what a must-fail edit makes false. Assumes nothing.
use Rattle.std.specs.Prelude.{ℕ, ◌*◌, ◌≤◌, ◌<◌, ◌≡◌}
use Rattle.std.proofs.Math.Logic.{dite}
use Rattle.std.proofs.Common.{mul-le-mul_right, arith}
use Rattle.std.proofs.Math.Decide.{dec_lt}
use Rattle.bounded.specs.Quotient.{ceil_div, ceil_after, ceil_least}

pub ceil_more : (a b m : ℕ) → 1 ≤ b → m * b < a → m < ceil_div a b
ceil_more a b m h l =
    dite (dec_lt m (ceil_div a b)) (λ p. p)
    (λ p. absurd (omega (arith, ceil_after a b h, mul-le-mul_right {m = ceil_div a b} {n = m} b (omega arith))))

pub ceil_mono : (a c b : ℕ) → 1 ≤ b → a ≤ c → ceil_div a b ≤ ceil_div c b
ceil_mono a c b h l = ceil_least a b (ceil_div c b) h (omega (arith, ceil_after c b h))

-- a stretch no longer than b begins one b
pub ceil_one : (a b : ℕ) → 1 ≤ a → a ≤ b → ceil_div a b ≡ 1
ceil_one a b h l = omega (arith, ceil_least a b 1 (omega arith) (omega arith), ceil_more a b 0 (omega arith) (omega arith))

pub ceil_small : (a b : ℕ) → 1 ≤ b → ceil_div a b ≤ a
ceil_small a b h = ceil_least a b a h (omega (arith, mul-le-mul_right {m = 1} {n = b} a h))
