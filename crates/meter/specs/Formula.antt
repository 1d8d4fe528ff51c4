-- The formula of g (docs/SPECIFICATION.md §10.2): the statements, without proof. `Power` proves them. Assumes nothing.
use Rattle.std.specs.Prelude.{ℕ, ◌+◌, ◌/◌, ◌%◌, ◌^◌, ◌≤◌, ◌<◌, ◌≡◌}
use Rattle.std.specs.Int.Count.{count_leading_zeros}
use Rattle.meter.specs.Log.{eighths_of}

-- the bit at place p of x, counted from 0
abbrev pub bit_at : ℕ → ℕ → ℕ
bit_at x p = x / 2 ^ p % 2

-- g(n) is the place of the highest one bit of n to the eighth power: that bit is 1, and each bit above it is 0
abbrev pub HighestOne : Type 0
HighestOne =
    (n : ℕ) → 1 ≤ n → n ≤ 255 → (bit_at (n ^ 8) (eighths_of n) ≡ 1) × ((p : ℕ) → eighths_of n < p → bit_at (n ^ 8) p ≡ 0)

-- and is 63 minus the leading zeros of that power in 64 bits, which it fits
abbrev pub ByLeadingZeros : Type 0
ByLeadingZeros = (n : ℕ) → 1 ≤ n → n ≤ 255 → (n ^ 8 < 2 ^ 64) × (eighths_of n + count_leading_zeros 64 (n ^ 8) ≡ 63)
