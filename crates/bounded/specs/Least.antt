-- The least number of a range that passes a test, and its laws. Assumes nothing.
use Rattle.std.specs.Prelude.{ℕ, zero, suc, ◌+◌, ◌≤◌, ◌<◌, ◌≡◌, Bool, true, false, cond}
use Rattle.std.proofs.Common.{sym, ◌∙◌, true≢false, le_refl, arith}
use Rattle.std.proofs.Math.Logic.{dite}
use Rattle.std.proofs.Math.Decide.{dec_lt, ℕ_discrete}
use Rattle.bounded.specs.Tests.{both}

-- the least x with p x of a, a + 1, .., a + n - 1; and a + n where none has it
unfoldable pub least_from : (ℕ → Bool) → ℕ → ℕ → ℕ
least_from p a zero = a
least_from p a (suc n) = cond (p a) a (least_from p (suc a) n)

pub least_low : (p : ℕ → Bool) (a n : ℕ) → a ≤ least_from p a n
unfolding least_from
least_low p a zero = le_refl a
least_low p a (suc n) = both (p a) (λ e. simp e (le_refl a)) (λ e. simp e (omega (arith, least_low p (suc a) n)))

pub least_high : (p : ℕ → Bool) (a n : ℕ) → least_from p a n ≤ a + n
unfolding least_from
least_high p a zero = omega arith
least_high p a (suc n) = both (p a) (λ e. simp e (omega arith)) (λ e. simp e (omega (arith, least_high p (suc a) n)))

-- what it finds passes
pub least_at : (p : ℕ → Bool) (a n : ℕ) → least_from p a n < a + n → p (least_from p a n) ≡ true
unfolding least_from
least_at p a zero h = absurd (omega arith)
least_at p a (suc n) h =
    both (p a) (λ e. simp e)
    (λ e. let l : least_from p (suc a) n < a + suc n = simp e at h in simp e (least_at p (suc a) n (omega arith)))

-- and nothing before it does
pub least_before : (p : ℕ → Bool) (a n j : ℕ) → a ≤ j → j < least_from p a n → p j ≡ false
unfolding least_from
least_before p a zero j l h = absurd (omega arith)
least_before p a (suc n) j l h =
    both (p a) (λ e. let k : j < a = simp e at h in absurd (omega arith))
    (λ e.
    let k : j < least_from p (suc a) n = simp e at h in
    dite (ℕ_discrete j a) (λ q. rw q e) (λ q. least_before p (suc a) n j (omega arith) k))

-- the two ways that a search ends: at the first that passes, and at the end
pub least_found : (p : ℕ → Bool) (a n x : ℕ) → a ≤ x → x < a + n → p x ≡ true → ((j : ℕ) → a ≤ j → j < x → p j ≡ false) → x ≡ least_from p a n
least_found p a n x l h e none =
    dite (ℕ_discrete x (least_from p a n)) (λ q. q)
    (λ q. absurd
    (both (p (least_from p a n))
    (λ t. dite (dec_lt x (least_from p a n))
    (λ b. true≢false (sym e ∙ least_before p a n x l b))
    (λ b. true≢false (sym t ∙ none (least_from p a n) (least_low p a n) (omega arith))))
    (λ t. dite (dec_lt (least_from p a n) (a + n))
    (λ b. true≢false (sym (least_at p a n b) ∙ t))
    (λ b. true≢false (sym e ∙ least_before p a n x l (omega arith))))))

pub least_none : (p : ℕ → Bool) (a n : ℕ) → ((j : ℕ) → a ≤ j → j < a + n → p j ≡ false) → a + n ≡ least_from p a n
least_none p a n none =
    dite (dec_lt (least_from p a n) (a + n))
    (λ b. absurd (true≢false (sym (least_at p a n b) ∙ none (least_from p a n) (least_low p a n) b)))
    (λ b. omega (arith, least_high p a n))

-- ---- for a loop that looks for the first index below n that passes, as `search` asks for them

-- none below i passes
pub record Passed (p : ℕ → Bool) (i : ℕ) : Type 0 where
  pub none : (j : ℕ) → j < i → p j ≡ false

pub passed_start : (p : ℕ → Bool) → Passed p 0
passed_start p = record { none = λ j l. absurd (omega arith) }

pub passed_next : (p : ℕ → Bool) (i : ℕ) (b : Bool) → Passed p i → b ≡ p i → b ≡ false → Passed p (i + 1)
passed_next p i b h e f =
    record { none = λ j l. dite (ℕ_discrete j i) (λ q. rw q (sym e ∙ f)) (λ q. h.none j (omega arith)) }

-- the loop's bound n is the length m that the definition names
pub first_found : (p : ℕ → Bool) (i n m : ℕ) (b : Bool) → Passed p i → i < n → n ≡ m → b ≡ p i → b ≡ true → i ≡ least_from p 0 m
first_found p i n m b h l k e t = least_found p 0 m i (omega arith) (omega arith) (sym e ∙ t) (λ j u v. h.none j v)

pub first_none : (p : ℕ → Bool) (i n m : ℕ) → Passed p i → n ≤ i → n ≡ m → n ≡ least_from p 0 m
first_none p i n m h l k = omega (arith, least_none p 0 m (λ j u v. h.none j (omega arith)))
