-- Products of a function over the indices below n, and their laws. Assumes nothing.
use Rattle.std.specs.Prelude.{ℕ, zero, suc, ◌+◌, ◌*◌, ◌^◌, ◌≤◌, ◌<◌, ◌≡◌, refl}
use Rattle.std.proofs.Common.{◌∙◌, pow-suc, mul-le-mul, arith, pow-add}
use Rattle.std.proofs.Math.Nat.{pow-zero}
use Rattle.bounded.specs.Sum.{sum_to}

-- f 0 × f 1 × .. × f (n - 1)
unfoldable pub product_to : (ℕ → ℕ) → ℕ → ℕ
product_to f zero = 1
product_to f (suc n) = product_to f n * f n

pub product_le : (f g : ℕ → ℕ) (n : ℕ) → ((i : ℕ) → i < n → f i ≤ g i) → product_to f n ≤ product_to g n
unfolding product_to
product_le f g zero h = omega arith
product_le f g (suc n) h = mul-le-mul (product_le f g n (λ i l. h i (omega arith))) (h n (omega arith))

pub product_eq : (f g : ℕ → ℕ) (n : ℕ) → ((i : ℕ) → i < n → f i ≡ g i) → product_to f n ≡ product_to g n
unfolding product_to
product_eq f g zero h = refl
product_eq f g (suc n) h = rw (product_eq f g n (λ i l. h i (omega arith)), h n (omega arith))

pub product_mul : (f g : ℕ → ℕ) (n : ℕ) → product_to (λ i. f i * g i) n ≡ product_to f n * product_to g n
unfolding product_to
product_mul f g zero = refl
product_mul f g (suc n) = rw (product_mul f g n) (omega arith)

pub product_const : (b n : ℕ) → product_to (λ i. b) n ≡ b ^ n
unfolding product_to
product_const b zero = rw (pow-zero b)
product_const b (suc n) = rw (product_const b n, pow-suc b n)

-- powers multiply as their exponents add
pub product_power : (b : ℕ) (f : ℕ → ℕ) (n : ℕ) → product_to (λ i. b ^ f i) n ≡ b ^ sum_to f n
unfolding product_to sum_to
product_power b f zero = rw (pow-zero b)
product_power b f (suc n) = rw (product_power b f n, pow-add b (sum_to f n) (f n))

pub power_power : (b m n : ℕ) → (b ^ m) ^ n ≡ b ^ (n * m)
power_power b m zero = let z : 0 * m ≡ 0 = omega arith in rw (pow-zero (b ^ m), z, pow-zero b)
power_power b m (suc n) =
    let e : suc n * m ≡ n * m + m = omega arith in
    pow-suc (b ^ m) n ∙ rw (power_power b m n, e, pow-add b (n * m) m)
