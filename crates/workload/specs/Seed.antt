-- The seed in an input: the code that reads it, and the proofs of Statement.antt of the program. Assumes nothing.
use Rattle.std.specs.Prelude.{Option, Some, None, ◌≡◌, ℕ, ◌+◌, ◌<◌, ◌≤◌, ◌⊎◌, List, [], ◌∷◌, ◌++◌, length, take, drop, ◌==◌, ◌≢◌, refl}
use Rattle.std.proofs.Math.Path.{sym, ap}
use Rattle.std.proofs.Common.{subst, ◌∙◌, inl, inr, ⊎_elim, arith, length-append, length-take, drop_of_length-le, take_all, eqb-true}
use Rattle.std.proofs.Math.Logic.{dite}
use Rattle.std.proofs.Math.Decide.{dec_le}
use Rattle.std.proofs.Math.ListN.{length-drop}
use Rattle.bounded.specs.Tests.{both}
use Rattle.decimal.specs.Decimal.{decimal, decimal_short}
use Rattle.decimal.specs.Number.{number_of}
use Rattle.decimal.specs.RoundTrip.{read_back, write_back, number_narrow}
use Rattle.lines.specs.Parted.{parted, on_first, parted_not_none, Found, parted_whole, parted_at}
use Rattle.lines.specs.Input.{number_without, parted_end}
use Rattle.workload.specs.Trial.{seed_in, seed_of}
use Rattle.workload.specs.Statement.{SeedRead, OnlySeeds, TwelveDecide}

-- ---- the code

-- bytes after the first newline
rest_none : (p l : List ℕ) → 1 ≤ length l → seed_in (p ∷ parted 10 l) ≡ None
unfolding parted
rest_none p [] h = absurd (omega arith)
rest_none p (b ∷ l) h =
    both (b == 10) (λ e. simp e (ended (parted 10 l) (parted_not_none 10 l))) (λ e. simp e (more (parted 10 l)))
  where
    ended : (m : List (List ℕ)) → (m ≢ []) → seed_in (p ∷ [] ∷ m) ≡ None
    ended [] n = absurd (n refl)
    ended (q ∷ m) n = refl

    more : (m : List (List ℕ)) → seed_in (p ∷ on_first b m) ≡ None
    more [] = refl
    more (q ∷ []) = refl
    more (q ∷ r ∷ m) = refl

module _ (input : List ℕ) where
  pub seed_unended : Found 10 input None → None ≡ seed_of input
  unfolding seed_of
  seed_unended l = sym (ap seed_in (parted_whole 10 input l))

  module _ (e : ℕ) (h : Found 10 input (Some e)) where
    pub seed_more : e + 1 < length input → None ≡ seed_of input
    unfolding seed_of
    seed_more l =
        sym (ap seed_in (parted_at 10 input e h) ∙ rest_none (take e input) (drop (e + 1) input) (omega (arith, length-drop (e + 1) input)))

    pub seed_one : (r : Option ℕ) → length input ≤ e + 1 → r ≡ number_of (take e input) → r ≡ seed_of input
    unfolding seed_of parted
    seed_one r l f =
        f ∙ sym (ap seed_in (parted_at 10 input e h) ∙ ap (λ (m : List ℕ). seed_in (take e input ∷ parted 10 m)) (drop_of_length-le input l))

pub ruleset seed_cases = (seed_unended, seed_more, seed_one)

-- ---- a seed is its digits and a newline

pub seed_read : SeedRead
unfolding seed_of parted
seed_read seed h = rw (parted_end 10 (decimal seed) [] (number_without 10 seed (omega arith))) (read_back seed h)

-- parts put together again
abbrev joined : List (List ℕ) → List ℕ
joined [] = []
joined (p ∷ []) = p
joined (p ∷ q ∷ l) = p ++ 10 ∷ joined (q ∷ l)

joined_cons : (p : List ℕ) (l : List (List ℕ)) → (l ≢ []) → joined (p ∷ l) ≡ p ++ 10 ∷ joined l
joined_cons p [] n = absurd (n refl)
joined_cons p (q ∷ l) n = refl

joined_first : (b : ℕ) (l : List (List ℕ)) → joined (on_first b l) ≡ b ∷ joined l
joined_first b [] = refl
joined_first b (p ∷ []) = refl
joined_first b (p ∷ q ∷ l) = refl

parted_joined : (l : List ℕ) → joined (parted 10 l) ≡ l
unfolding parted
parted_joined [] = refl
parted_joined (b ∷ l) =
    both (b == 10)
    (λ e. simp e (joined_cons [] (parted 10 l) (parted_not_none 10 l) ∙ rw (parted_joined l, eqb-true b 10 e)))
    (λ e. simp e (joined_first b (parted 10 l) ∙ ap (λ (t : List ℕ). b ∷ t) (parted_joined l)))

pub only_seeds : OnlySeeds
unfolding seed_of
only_seeds input seed e = subst (λ (l : List ℕ). (l ≡ decimal seed ++ 10 ∷ []) × (seed ≤ 4294967295)) (parted_joined input) (by (parted 10 input) e)
  where
    none : None ≡ Some seed → ⊥
    none f = let z : ◌≡◌ {A = ℕ} 0 1 = cc in omega arith

    by : (m : List (List ℕ)) → seed_in m ≡ Some seed → (joined m ≡ decimal seed ++ 10 ∷ []) × (seed ≤ 4294967295)
    by [] f = absurd (none f)
    by (p ∷ []) f = absurd (none f)
    by (p ∷ [] ∷ []) f = (ap (λ (t : List ℕ). t ++ 10 ∷ []) (sym (write_back p seed f)), number_narrow p seed f)
    by (p ∷ (b ∷ q) ∷ []) f = absurd (none f)
    by (p ∷ q ∷ r ∷ l) f = absurd (none f)

-- ---- the first 12 bytes decide

seed_short : (input : List ℕ) (seed : ℕ) → seed_of input ≡ Some seed → length input ≤ 11
seed_short input seed e =
    let p = only_seeds input seed e in
    omega (arith, ap length p.0, length-append (decimal seed) (10 ∷ []), decimal_short 9 seed (omega (arith, p.1)))

number_or : (r : Option ℕ) → (r ≡ None) ⊎ ((n : ℕ) × (r ≡ Some n))
number_or (Some n) = inr (n, refl)
number_or None = inl refl

pub twelve_decide : TwelveDecide
twelve_decide input k h =
    dite (dec_le (length input) k) (λ l. ap seed_of (take_all k input l))
    (λ l. none (take k input) (omega (arith, length-take k input)) ∙ sym (none input (omega arith)))
  where
    none : (t : List ℕ) → 12 ≤ length t → seed_of t ≡ None
    none t g =
        ⊎_elim (λ e. e) (λ (p : (n : ℕ) × (seed_of t ≡ Some n)). absurd (omega (arith, seed_short t p.0 p.1))) (number_or (seed_of t))
