-- A test that every index below n passes, and its laws. Assumes nothing.
use Rattle.std.specs.Prelude.{ℕ, zero, suc, ◌+◌, ◌≤◌, ◌<◌, ◌≡◌, refl, Bool, true, false, ◌&&◌}
use Rattle.std.proofs.Common.{sym, ap, ◌∙◌, true≢false, add-one, arith}
use Rattle.std.proofs.Math.Logic.{dite}
use Rattle.std.proofs.Math.Decide.{ℕ_discrete}
use Rattle.bounded.specs.Tests.{both, and-true}

unfoldable pub all_to : (ℕ → Bool) → ℕ → Bool
all_to p zero = true
all_to p (suc n) = all_to p n && p n

pub all_at : (p : ℕ → Bool) (n : ℕ) → all_to p n ≡ true → (i : ℕ) → i < n → p i ≡ true
unfolding all_to
all_at p zero h i l = absurd (omega arith)
all_at p (suc n) h i l =
    let e = and-true (all_to p n) (p n) h in
    dite (ℕ_discrete i n) (λ q. rw q e.1) (λ q. all_at p n e.0 i (omega arith))

pub all_of : (p : ℕ → Bool) (n : ℕ) → ((i : ℕ) → i < n → p i ≡ true) → all_to p n ≡ true
unfolding all_to
all_of p zero h = refl
all_of p (suc n) h = simp (all_of p n (λ i l. h i (omega arith)), h n (omega arith))

-- where not all pass, one fails
pub all_not : (p : ℕ → Bool) (n : ℕ) → all_to p n ≡ false → (i : ℕ) × (i < n) × (p i ≡ false)
unfolding all_to
all_not p zero h = absurd (true≢false h)
all_not p (suc n) h =
    both (all_to p n)
    (λ t. (n, omega arith, simp t at h))
    (λ f. let r = all_not p n f in (r.0, omega (arith, r.1), r.2))

-- ---- for a loop that tests every index and stops at the first that fails, as `search` asks for them

pub all_start : (p : ℕ → Bool) → all_to p 0 ≡ true
unfolding all_to
all_start p = refl

pub all_next : (p : ℕ → Bool) (i : ℕ) (b : Bool) → all_to p i ≡ true → b ≡ p i → b ≡ true → all_to p (i + 1) ≡ true
unfolding all_to
all_next p i b h e t = rw add-one (simp (h, sym e ∙ t))

pub all_done : (p : ℕ → Bool) (i n m : ℕ) → all_to p i ≡ true → i ≤ n → n ≤ i → n ≡ m → true ≡ all_to p m
all_done p i n m h l k e = let j : i ≡ m = omega arith in sym (ap (all_to p) (sym j) ∙ h)
