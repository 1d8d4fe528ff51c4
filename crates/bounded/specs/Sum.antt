-- Sums of a function over the indices below n, and their laws. Assumes nothing.
use Rattle.std.specs.Prelude.{ℕ, zero, suc, ◌+◌, ◌*◌, ◌≤◌, ◌<◌, ◌≡◌, refl}
use Rattle.std.proofs.Common.{ap, ◌∙◌, add-suc, le_of_eq, add-one, arith}
use Rattle.std.proofs.Math.Logic.{dite}
use Rattle.std.proofs.Math.Numerals.{unary_clauses}
use Rattle.std.proofs.Math.Decide.{dec_lt}
use Rattle.std.proofs.Math.Arith.{le-zero}

-- f 0 + f 1 + .. + f (n - 1)
unfoldable pub sum_to : (ℕ → ℕ) → ℕ → ℕ
sum_to f zero = 0
sum_to f (suc n) = sum_to f n + f n

pub sum_le : (f g : ℕ → ℕ) (n : ℕ) → ((i : ℕ) → i < n → f i ≤ g i) → sum_to f n ≤ sum_to g n
unfolding sum_to
sum_le f g zero h = omega arith
sum_le f g (suc n) h = let ih = sum_le f g n (λ i l. h i (omega arith)) in omega (arith, h n (omega arith))

pub sum_eq : (f g : ℕ → ℕ) (n : ℕ) → ((i : ℕ) → i < n → f i ≡ g i) → sum_to f n ≡ sum_to g n
unfolding sum_to
sum_eq f g zero h = refl
sum_eq f g (suc n) h = let ih = sum_eq f g n (λ i l. h i (omega arith)) in omega (arith, h n (omega arith))

pub sum_add : (f g : ℕ → ℕ) (n : ℕ) → sum_to (λ i. f i + g i) n ≡ sum_to f n + sum_to g n
unfolding sum_to
sum_add f g zero = refl
sum_add f g (suc n) = let ih = sum_add f g n in omega arith

pub sum_mul : (c : ℕ) (f : ℕ → ℕ) (n : ℕ) → sum_to (λ i. c * f i) n ≡ c * sum_to f n
unfolding sum_to
sum_mul c f zero = omega arith
sum_mul c f (suc n) = let ih = sum_mul c f n in omega arith

pub sum_const : (c n : ℕ) → sum_to (λ i. c) n ≡ c * n
unfolding sum_to
sum_const c zero = omega arith
sum_const c (suc n) = let ih = sum_const c n in omega arith

pub sum_zero : (f : ℕ → ℕ) (n : ℕ) → ((i : ℕ) → i < n → f i ≡ 0) → sum_to f n ≡ 0
unfolding sum_to
sum_zero f zero h = refl
sum_zero f (suc n) h = let ih = sum_zero f n (λ i l. h i (omega arith)) in omega (arith, h n (omega arith))

-- f is at most g, but perhaps at the index k: the sums differ as f and g do there
pub sum_le_at : (f g : ℕ → ℕ) (n k : ℕ) → k < n → ((i : ℕ) → i < n → ¬ (i ≡ k) → f i ≤ g i) → sum_to f n + g k ≤ sum_to g n + f k
unfolding sum_to
sum_le_at f g zero k l h = omega arith
sum_le_at f g (suc n) k l h =
    dite (dec_lt k n)
    (λ p. let ih = sum_le_at f g n k p (λ i q. h i (omega arith)) in omega (arith, h n (omega arith) (omega arith)))
    (λ p. let e : k ≡ n = omega arith in
    rw e (let r = sum_le f g n (λ i q. h i (omega arith) (omega arith)) in omega arith))

pub sum_eq_at : (f g : ℕ → ℕ) (n k : ℕ) → k < n → ((i : ℕ) → i < n → ¬ (i ≡ k) → f i ≡ g i) → sum_to f n + g k ≡ sum_to g n + f k
sum_eq_at f g n k l h =
    omega (arith, sum_le_at f g n k l (λ i p q. le_of_eq (h i p q)), sum_le_at g f n k l (λ i p q. omega (arith, h i p q)))

pub sum_term : (f : ℕ → ℕ) (n k : ℕ) → k < n → f k ≤ sum_to f n
sum_term f n k l = omega (arith, sum_le_at (λ i. 0) f n k l (λ i p q. omega arith), sum_zero (λ i. 0) n (λ i p. refl))

-- the sums differ, so the functions do at some index
pub sum_lt : (f g : ℕ → ℕ) (n : ℕ) → sum_to f n < sum_to g n → (k : ℕ) × (k < n) × (f k < g k)
unfolding sum_to
sum_lt f g zero h = absurd (omega arith)
sum_lt f g (suc n) h =
    dite (dec_lt (f n) (g n)) (λ p. (n, omega arith, p))
    (λ p. let r = sum_lt f g n (omega arith) in (r.0, omega arith, r.2))

pub sum_shift : (f : ℕ → ℕ) (a b : ℕ) → sum_to f (a + b) ≡ sum_to f a + sum_to (λ x. f (a + x)) b
unfolding sum_to
sum_shift f a zero = simp unary_clauses
sum_shift f a (suc b) = rw add-suc (let ih = sum_shift f a b in omega arith)

-- a sum to a larger bound
pub sum_upto : (f : ℕ → ℕ) (a b : ℕ) → a ≤ b → sum_to f a ≤ sum_to f b
unfolding sum_to
sum_upto f a zero h = rw (le-zero h) (omega arith)
sum_upto f a (suc b) h =
    dite (dec_lt a (suc b)) (λ p. let ih = sum_upto f a b (omega arith) in omega arith)
    (λ p. let e : a ≡ suc b = omega arith in rw e (omega arith))

-- ---- for a loop that adds up: its start, one turn, and its end, as `search` asks for them

pub sum_start : (f : ℕ → ℕ) → 0 ≡ sum_to f 0
unfolding sum_to
sum_start f = refl

pub sum_next : (f : ℕ → ℕ) (i x r : ℕ) → x ≡ sum_to f i → r ≡ f i → x + r ≡ sum_to f (i + 1)
unfolding sum_to
sum_next f i x r e h = rw (add-one, e, h)

-- the loop's bound n is the length m that the definition names
pub sum_done : (f : ℕ → ℕ) (i n m x : ℕ) → x ≡ sum_to f i → i ≤ n → n ≤ i → n ≡ m → x ≡ sum_to f m
sum_done f i n m x e l h k = let j : i ≡ m = omega arith in e ∙ ap (sum_to f) j
