-- A test's two outcomes, and a number that counts only where a test passes. Assumes nothing.
use Rattle.std.specs.Prelude.{ℕ, ◌≤◌, ◌<◌, ◌≡◌, refl, Bool, true, false, not, ◌&&◌, ◌||◌, ◌⊎◌, ltb}
use Rattle.std.proofs.Common.{sym, ◌∙◌, inl, inr, arith, lt-ltb, le-ltb}
use Rattle.std.proofs.lemmas.Bool.{false≢true}
use Rattle.std.proofs.Math.Logic.{dite}
use Rattle.std.proofs.Math.Decide.{dec_lt}

-- each outcome with its equation
pub both : {P : Type 0} (b : Bool) → (b ≡ true → P) → (b ≡ false → P) → P
both true f g = f refl
both false f g = g refl

-- both of two tests pass
pub and-true : (a b : Bool) → (a && b) ≡ true → (a ≡ true) × (b ≡ true)
and-true true b e = (refl, e)
and-true false b e = absurd (false≢true e)

pub and_both : (a b : Bool) → a ≡ true → b ≡ true → (a && b) ≡ true
and_both a b e f = simp (e, f)

-- a test that passes wherever another does
pub so_then : (a b : Bool) → (not a || b) ≡ true → a ≡ true → b ≡ true
so_then true b e t = e
so_then false b e t = absurd (false≢true t)

pub then_so : (a b : Bool) → (a ≡ true → b ≡ true) → (not a || b) ≡ true
then_so true b h = h refl
then_so false b h = refl

-- one of two tests passes
pub or-true : (a b : Bool) → (a || b) ≡ true → (a ≡ true) ⊎ (b ≡ true)
or-true true b e = inl refl
or-true false b e = inr e

-- two comparisons with the same outcome
pub ltb_same : (x y z w : ℕ) → (x < y → z < w) → (y ≤ x → w ≤ z) → ltb x y ≡ ltb z w
ltb_same x y z w g h =
    dite (dec_lt x y) (λ l. lt-ltb x y l ∙ sym (lt-ltb z w (g l))) (λ l. le-ltb x y (omega arith) ∙ sym (le-ltb z w (h (omega arith))))

-- x where the test passes, and 0 where it fails
unfoldable pub gate : Bool → ℕ → ℕ
gate true x = x
gate false x = 0

pub gate_on : (b : Bool) (x : ℕ) → b ≡ true → gate b x ≡ x
unfolding gate
gate_on b x e = rw e

pub gate_off : (b : Bool) (x : ℕ) → b ≡ false → gate b x ≡ 0
unfolding gate
gate_off b x e = rw e

pub gate_le : (b : Bool) (x : ℕ) → gate b x ≤ x
unfolding gate
gate_le true x = omega arith
gate_le false x = omega arith

pub gate_mono : (b : Bool) (x y : ℕ) → x ≤ y → gate b x ≤ gate b y
unfolding gate
gate_mono true x y h = h
gate_mono false x y h = omega arith
