-- What a loop over 0, 1, .., n - 1 makes of a value, and its laws. Assumes nothing.
use Rattle.std.specs.Prelude.{ℕ, zero, suc, ◌+◌, ◌≤◌, ◌<◌, ◌≡◌, refl, List, length, get_or, set}
use Rattle.std.proofs.Common.{◌∙◌, add-one, arith, length-set, get_or-set_same, get_or-set_other}
use Rattle.std.proofs.Math.Logic.{dite}
use Rattle.std.proofs.Math.Decide.{ℕ_discrete}

-- a, then g at 0, 1, .., n - 1
unfoldable pub fold_to : {A : Type 0} → (A → ℕ → A) → A → ℕ → A
fold_to g a zero = a
fold_to g a (suc n) = g (fold_to g a n) n

-- a loop that puts f i at each place i below n: the length is kept, and what stands at a place
pub put_length : {A : Type 0} (f : ℕ → A) (l : List A) (n : ℕ) → length (fold_to (λ v i. set v i (f i)) l n) ≡ length l
unfolding fold_to
put_length f l zero = refl
put_length f l (suc n) = simp length-set (put_length f l n)

pub put_at : {A : Type 0} (f : ℕ → A) (l : List A) (n : ℕ) (d : A) → n ≤ length l → (i : ℕ) → i < n → get_or (fold_to (λ v i. set v i (f i)) l n) i d ≡ f i
unfolding fold_to
put_at f l zero d h i k = absurd (omega arith)
put_at f l (suc n) d h i k =
    dite (ℕ_discrete i n)
    (λ e. rw e (get_or-set_same (fold_to (λ v i. set v i (f i)) l n) n (f n) d (omega (arith, put_length f l n))))
    (λ ne. get_or-set_other (fold_to (λ v i. set v i (f i)) l n) n i (f n) d ne ∙ put_at f l n d (omega arith) i (omega arith))

pub put_past : {A : Type 0} (f : ℕ → A) (l : List A) (n : ℕ) (d : A) (i : ℕ) → n ≤ i → get_or (fold_to (λ v i. set v i (f i)) l n) i d ≡ get_or l i d
unfolding fold_to
put_past f l zero d i h = refl
put_past f l (suc n) d i h =
    get_or-set_other (fold_to (λ v i. set v i (f i)) l n) n i (f n) d (λ e. omega arith) ∙ put_past f l n d i (omega arith)

-- ---- for a loop that puts f i at each place i: its start, and one turn

pub put_start : {A : Type 0} (f : ℕ → A) (l : List A) → l ≡ fold_to (λ v i. set v i (f i)) l 0
unfolding fold_to
put_start f l = refl

pub put_next : {A : Type 0} (f : ℕ → A) (l x : List A) (i : ℕ) (b : A) → x ≡ fold_to (λ v i. set v i (f i)) l i → b ≡ f i → set x i b ≡ fold_to (λ v i. set v i (f i)) l (i + 1)
unfolding fold_to
put_next f l x i b e h = rw (add-one, e, h)
