-- The least fixed point, from 1 up, of a function that never falls, and how a loop reaches it. Assumes nothing.
use Rattle.std.specs.Prelude.{ℕ, zero, suc, ◌+◌, ◌≤◌, ◌<◌, ◌≡◌, eqb}
use Rattle.std.proofs.Math.Logic.{dite}
use Rattle.std.proofs.Common.{arith, eq-eqb, ne_eqb, eqb-true}
use Rattle.std.proofs.Math.Decide.{dec_le, ℕ_discrete}
use Rattle.std.proofs.lemmas.Bool.{eqb-false}
use Rattle.bounded.specs.Least.{least_from, least_low, least_at, least_before, least_found, least_none}

-- the least r from 1 to cap that f gives back; and cap + 1 where there is none
unfoldable pub least_fixed : (ℕ → ℕ) → ℕ → ℕ
least_fixed f cap = least_from (λ r. eqb (f r) r) 1 cap

pub fixed_low : (f : ℕ → ℕ) (cap : ℕ) → 1 ≤ least_fixed f cap
unfolding least_fixed
fixed_low f cap = least_low (λ r. eqb (f r) r) 1 cap

pub fixed_at : (f : ℕ → ℕ) (cap : ℕ) → least_fixed f cap ≤ cap → f (least_fixed f cap) ≡ least_fixed f cap
unfolding least_fixed
fixed_at f cap h = eqb-true _ _ (least_at (λ r. eqb (f r) r) 1 cap (omega arith))

pub fixed_before : (f : ℕ → ℕ) (cap q : ℕ) → 1 ≤ q → q < least_fixed f cap → f q ≡ q → ⊥
unfolding least_fixed
fixed_before f cap q l h = eqb-false _ _ (least_before (λ r. eqb (f r) r) 1 cap q l h)

-- a loop's value r on the way: f does not lower it, and no fixed point is below it
pub record Climbing (f : ℕ → ℕ) (cap r : ℕ) : Type 0 where
  pub low : 1 ≤ r
  pub high : r ≤ cap
  pub up : r ≤ f r
  pub under : (q : ℕ) → 1 ≤ q → f q ≡ q → r ≤ q

pub climb_start : (f : ℕ → ℕ) (cap : ℕ) → 1 ≤ cap → 1 ≤ f 1 → Climbing f cap 1
climb_start f cap h l = record { low = omega arith; high = h; up = l; under = λ q p e. p }

-- the loop may go on from any x past f r that no fixed point from r on is below, and that f does not lower
pub climb_far : (f : ℕ → ℕ) (cap r n x : ℕ) → Climbing f cap r → n ≡ f r → n ≤ x → ((q : ℕ) → r ≤ q → f q ≡ q → x ≤ q)
    → (r ≤ x → x ≤ cap → x ≤ f x) → x ≤ cap → Climbing f cap x
climb_far f cap r n x c e m under up h = record {
  low = omega (arith, c.low, c.up);
  high = h;
  up = up (omega (arith, c.up)) h;
  under = λ q p y. under q (c.under q p y) y;
}

pub climb_more : (f : ℕ → ℕ) (cap r n : ℕ) → Climbing f cap r → n ≡ f r → (n ≡ r → ⊥) → r < n
climb_more f cap r n c e h = omega (arith, c.up)

-- the ways in which the loop ends
pub climb_least : (f : ℕ → ℕ) (cap r n : ℕ) → Climbing f cap r → n ≡ f r → n ≡ r → r ≡ least_fixed f cap
unfolding least_fixed
climb_least f cap r n c e h =
    least_found (λ r. eqb (f r) r) 1 cap r c.low (omega (arith, c.high)) (eq-eqb (f r) r (omega arith))
    (λ j l k. ne_eqb (f j) j (λ x. omega (arith, c.under j l x)))

pub climb_past : (f : ℕ → ℕ) (cap r x : ℕ) → Climbing f cap r → ((q : ℕ) → r ≤ q → f q ≡ q → x ≤ q) → cap < x → 1 + cap ≡ least_fixed f cap
unfolding least_fixed
climb_past f cap r x c under h =
    least_none (λ r. eqb (f r) r) 1 cap (λ j l k. ne_eqb (f j) j (λ y. omega (arith, under j (c.under j l y) y)))

-- where f never falls, a number that f does not raise is not below the least fixed point
module _ (f : ℕ → ℕ) (cap : ℕ) (mono : (x y : ℕ) → x ≤ y → f x ≤ f y) (some : 1 ≤ f 1) where
  above : (n x : ℕ) → x ≤ n → 1 ≤ x → f x ≤ x → x < least_fixed f cap → ⊥
  above zero x h l k b = omega arith
  above (suc n) x h l k b =
      dite (ℕ_discrete (f x) x) (λ e. fixed_before f cap x l b e)
      (λ ne. above n (f x) (omega arith) (omega (arith, mono 1 x l)) (mono (f x) x k) (omega arith))

  pub fixed_under : (x : ℕ) → 1 ≤ x → f x ≤ x → least_fixed f cap ≤ x
  fixed_under x l k = dite (dec_le (least_fixed f cap) x) (λ p. p) (λ p. absurd (above x x (omega arith) l k (omega arith)))
