-- Bounds that keep sums and products over a table from wrapping. Assumes nothing.
use Rattle.std.specs.Prelude.{ℕ, ◌≤◌, ◌*◌, ◌≡◌}
use Rattle.std.proofs.Common.{arith, mul-le-mul, Fits}
use Rattle.std.specs.Int.{w64}
use Rattle.bounded.specs.Within.{Within}
use Rattle.bounded.specs.Sum.{sum_to, sum_start, sum_next, sum_done}

-- a run of at most the horizon, as often as there are ticks up to it
pub product_small : (c n : ℕ) → c ≤ 1000000 → n ≤ 1000000 → c * n ≤ 1000000000000
product_small c n h l = mul-le-mul {n₁ = c} {m₁ = n} {n₂ = 1000000} {m₂ = 1000000} h l

pub product_fits : (c n : ℕ) → c ≤ 1000000 → n ≤ 1000000 → Fits w64 (c * n)
product_fits c n h l = record { fits = omega (arith, product_small c n h l) }

-- a loop that adds up a term for each row has ended
pub total : (f : ℕ → ℕ) (i n m x : ℕ) → x ≡ sum_to f i → x ≤ 1000000000000 * i → i ≤ n → n ≤ i → n ≡ m → m ≤ 16 → Within 16000000000000 (sum_to f m) x
total f i n m x e b l h k few = record { is = sum_done f i n m x e l h k; small = omega arith }

pub ruleset total_laws = (sum_start, sum_next, total)
