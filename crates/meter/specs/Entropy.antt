-- What the meter says of the schedule entropy (docs/SPECIFICATION.md §10.3): the statements, without proof. `Near`, `Equal` and
-- `Range` prove them. Assumes nothing.
use Rattle.std.specs.Prelude.{ℕ, ◌*◌, ◌^◌, ◌≤◌, ◌<◌, ◌≡◌, List, Ok}
use Rattle.meter.specs.Log.{eighths_of, Eighths}
use Rattle.bounded.specs.Product.{product_to}
use Rattle.meter.specs.declared.Shape.{Shape}
use Rattle.meter.specs.Meter.{row_in, alike, measure_of}

-- g(n) is eight times the base-2 logarithm of n, rounded down: the rule holds for it, and for no other number
abbrev pub Logarithm : Type 0
Logarithm = (n : ℕ) → 1 ≤ n → n ≤ 255 → Eighths n (eighths_of n) × ((r : ℕ) → Eighths n r → r ≡ eighths_of n)

-- c is 1 to K, and no term is cut off at 0: g(c) is at most g(K)
abbrev pub Counted : Type 0
Counted =
    (a : List ℕ) (h : Shape) (x : ℕ) → measure_of a h ≡ Ok x → (k t : ℕ) → k < h.stretches
    → (1 ≤ alike a h k t) × (alike a h k t ≤ h.stretches) × (eighths_of (alike a h k t) ≤ eighths_of h.stretches)

-- the product, over each tick of each stretch, of c to the eighth
unfoldable pub product_of : List ℕ → Shape → ℕ
product_of a h = product_to (λ k. product_to (λ t. alike a h k t ^ 8) h.ticks) h.stretches

-- With N = K × L: the exact sum E of eight times the base-2 logarithm of K / c has 2 ^ E = (K ^ 8) ^ N / product_of. The meter is
-- within N of it, over whole products.
abbrev pub Near : Type 0
Near =
    (a : List ℕ) (h : Shape) (x : ℕ) → measure_of a h ≡ Ok x
    -- x ≤ E + N
    → (2 ^ x * product_of a h ≤ 2 ^ (h.stretches * h.ticks) * (h.stretches ^ 8) ^ (h.stretches * h.ticks))
    -- E ≤ x + N
    × ((h.stretches ^ 8) ^ (h.stretches * h.ticks) ≤ 2 ^ x * (2 ^ (h.stretches * h.ticks) * product_of a h))

-- K equal stretches give 0
abbrev pub EqualNone : Type 0
EqualNone =
    (a : List ℕ) (h : Shape) (x : ℕ) → measure_of a h ≡ Ok x
    → ((k t : ℕ) → k < h.stretches → t < h.ticks → row_in a h k t ≡ row_in a h 0 t) → x ≡ 0

-- the meter never exceeds K × L × g(K)
abbrev pub Most : Type 0
Most = (a : List ℕ) (h : Shape) (x : ℕ) → measure_of a h ≡ Ok x → x ≤ h.stretches * h.ticks * eighths_of h.stretches

-- and is that where at each tick every stretch is like itself alone
abbrev pub MostReached : Type 0
MostReached =
    (a : List ℕ) (h : Shape) (x : ℕ) → measure_of a h ≡ Ok x
    → ((k t : ℕ) → k < h.stretches → t < h.ticks → alike a h k t ≡ 1) → x ≡ h.stretches * h.ticks * eighths_of h.stretches
