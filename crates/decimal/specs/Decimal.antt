-- Numbers in decimal (docs/SPECIFICATION.md §8.1). Assumes nothing.
use Rattle.std.specs.Prelude.{ℕ, zero, suc, ◌+◌, ◌/◌, ◌*◌, ◌%◌, ◌^◌, ◌≤◌, ◌<◌, ◌≡◌, cond, List, [], ◌∷◌, ◌++◌, ltb, length}
use Rattle.std.proofs.Common.{pow-suc, add-one, arith, length-append, ltb-true, ltb-false, lt-ltb, le-ltb}
use Rattle.std.proofs.Math.Nat.{one-le-pow}
use Rattle.bounded.specs.Tests.{both}

-- the byte of a digit
abbrev pub glyph : ℕ → ℕ
glyph d = 48 + d

-- the digits of n, the most significant first, k of them at most
unfoldable pub decimal_in : ℕ → ℕ → List ℕ
decimal_in zero n = []
decimal_in (suc k) n = cond (ltb n 10) (glyph n ∷ []) (decimal_in k (n / 10) ++ glyph (n % 10) ∷ [])

-- n in decimal, without leading zeros. It has no more than n + 1 digits.
unfoldable pub decimal : ℕ → List ℕ
decimal n = decimal_in (n + 1) n

-- ---- the laws of `decimal`

-- more room than is needed changes nothing
decimal_room : (j k n : ℕ) → n < j → n < k → decimal_in j n ≡ decimal_in k n
unfolding decimal_in
decimal_room zero k n a b = absurd (omega arith)
decimal_room (suc j) zero n a b = absurd (omega arith)
decimal_room (suc j) (suc k) n a b =
    both (ltb n 10) (λ e. simp e)
    λ e. let h : 10 ≤ n = ltb-false n 10 e in
    simp (e, decimal_room j k (n / 10) (omega arith) (omega arith))

pub decimal_small : (n : ℕ) → n < 10 → decimal n ≡ glyph n ∷ []
unfolding decimal decimal_in
decimal_small n h = rw (add-one, lt-ltb n 10 h)

pub decimal_large : (n : ℕ) → 10 ≤ n → decimal n ≡ decimal (n / 10) ++ glyph (n % 10) ∷ []
unfolding decimal decimal_in
decimal_large n h = rw (add-one n, le-ltb n 10 h, decimal_room n (n / 10 + 1) (n / 10) (omega arith) (omega arith))

-- what holds of the digits, and of a number where it holds of the number without its last digit, holds of every number
pub by_digits : (P : ℕ → Type 0) → ((n : ℕ) → n < 10 → P n) → ((n : ℕ) → 10 ≤ n → P (n / 10) → P n) → (n : ℕ) → P n
by_digits P small large n = below (n + 1) n (omega arith)
  where
    below : (k n : ℕ) → n < k → P n
    below zero n h = absurd (omega arith)
    below (suc k) n h = both (ltb n 10) (λ e. small n (ltb-true n 10 e)) λ e. let l : 10 ≤ n = ltb-false n 10 e in large n l (below k (n / 10) (omega arith))

pub decimal_some : (n : ℕ) → 1 ≤ length (decimal n)
decimal_some =
    by_digits (λ n. 1 ≤ length (decimal n)) (λ n h. rw (decimal_small n h) (omega arith))
    λ n h e. rw (decimal_large n h, length-append) (omega arith)

pub decimal_short : (k n : ℕ) → n < 10 ^ (k + 1) → length (decimal n) ≤ k + 1
decimal_short zero n h = rw (decimal_small n h) (omega arith)
decimal_short (suc k) n h =
    both (ltb n 10) (λ e. rw (decimal_small n (ltb-true n 10 e)) (omega arith))
    λ e. let l : 10 ≤ n = ltb-false n 10 e in
    let q : suc k + 1 ≡ suc (k + 1) = omega arith in
    let p : n < 10 ^ (k + 1) * 10 = rw (q, pow-suc) at h in
    let s : length (decimal (n / 10)) ≤ k + 1 = decimal_short k (n / 10) (omega arith) in
    rw (decimal_large n l, length-append) (omega arith)

pub decimal_long : (k n : ℕ) → 10 ^ k ≤ n → k + 1 ≤ length (decimal n)
decimal_long zero n h = decimal_some n
decimal_long (suc k) n h =
    let p : 10 ^ k * 10 ≤ n = rw pow-suc at h in
    let s : k + 1 ≤ length (decimal (n / 10)) = decimal_long k (n / 10) (omega arith) in
    let o = one-le-pow k 10 (omega arith) in
    rw (decimal_large n (omega arith), length-append) (omega arith)

pub decimal_twenty : (n : ℕ) → n < 2 ^ 64 → length (decimal n) ≤ 20
decimal_twenty n h = decimal_short 19 n (omega arith)
