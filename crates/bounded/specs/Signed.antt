-- Differences of numbers, over the integers: which of two is the less; and a - b - c as an i64. Assumes nothing.
use Rattle.std.specs.Prelude.{ℕ, zero, suc, ◌+◌, ◌-◌, ◌<◌, ◌^◌, Bool, true, false, ◌≡◌, refl, ℤ, pos, negsuc, ◌+ℤ◌, ◌-ℤ◌, neg_ℤ, ltb}
use Rattle.std.proofs.Common.{sym, ap, ◌∙◌, arith, lt-ltb, le-ltb, ltb-true, ltb-false, SFits, to_z, of_z, to_z-of_z}
use Rattle.std.proofs.Math.IntN.{sub_ℕ, +ℤ_assoc, neg_ℤ-+ℤ, -ℤ-+ℤ_cancel}
use Rattle.std.specs.Int.Signed.{lt_z}
use Rattle.std.specs.Int.{w64}
use Rattle.std.proofs.lemmas.Int.{to_z_pos}
use Rattle.bounded.specs.Tests.{both, ltb_same}

abbrev pub difference : ℕ → ℕ → ℕ → ℤ
difference a b c = pos a -ℤ pos b -ℤ pos c

-- the sign, as a test
abbrev pub negative : ℤ → Bool
negative (pos n) = false
negative (negsuc n) = true

pub negative_lt : (z : ℤ) → lt_z z (pos 0) ≡ negative z
negative_lt (pos n) = le-ltb n 0 (omega arith)
negative_lt (negsuc n) = refl

pos_sub : (a b : ℕ) → pos a -ℤ pos b ≡ sub_ℕ a b
pos_sub a zero = let e : a + 0 ≡ a - 0 = omega arith in simp (le-ltb a 0 (omega arith)) (ap pos e)
pos_sub a (suc b) = refl

pub difference_sub : (a b c : ℕ) → difference a b c ≡ sub_ℕ a (b + c)
difference_sub a b c =
    +ℤ_assoc (pos a) (neg_ℤ (pos b)) (neg_ℤ (pos c)) ∙ ap (λ (z : ℤ). pos a +ℤ z) (sym (neg_ℤ-+ℤ (pos b) (pos c))) ∙ pos_sub a (b + c)

negative_sub : (a b : ℕ) → negative (sub_ℕ a b) ≡ ltb a b
negative_sub a b = both (ltb a b) (λ e. simp e) (λ e. simp e)

-- it is negative where b and c exceed a, and only there
pub difference_negative : (a b c : ℕ) → negative (difference a b c) ≡ ltb a (b + c)
difference_negative a b c = ap negative (difference_sub a b c) ∙ negative_sub a (b + c)

-- a - b is less than c - d exactly if a + d is less than c + b
less_sub : (a b c d : ℕ) → lt_z (sub_ℕ a b) (sub_ℕ c d) ≡ ltb (a + d) (c + b)
less_sub a b c d =
    both (ltb a b)
    (λ e.
    let p = ltb-true a b e in
    both (ltb c d)
    (λ f. let q = ltb-true c d f in simp (e, f) (ltb_same (d - suc c) (b - suc a) (a + d) (c + b) (omega arith) (omega arith)))
    (λ f. let q = ltb-false c d f in simp (e, f) (sym (lt-ltb (a + d) (c + b) (omega arith)))))
    (λ e.
    let p = ltb-false a b e in
    both (ltb c d)
    (λ f. let q = ltb-true c d f in simp (e, f) (sym (le-ltb (a + d) (c + b) (omega arith))))
    (λ f. let q = ltb-false c d f in simp (e, f) (ltb_same (a - b) (c - d) (a + d) (c + b) (omega arith) (omega arith))))

pub difference_less : (a b c d : ℕ) → lt_z (pos a -ℤ pos b) (pos c -ℤ pos d) ≡ ltb (a + d) (c + b)
difference_less a b c d = rw (pos_sub a b, pos_sub c d) (less_sub a b c d)

-- c - b is a where c is a + b
pub difference_is : (a b c : ℕ) → a + b ≡ c → pos c -ℤ pos b ≡ pos a
difference_is a b c e =
    pos_sub c b ∙ simp (le-ltb c b (omega arith)) (let d : c - b ≡ a = omega arith in ap pos d)

-- a less the difference is b and c
pub difference_rest : (a b c : ℕ) → pos a -ℤ difference a b c ≡ pos (b + c)
difference_rest a b c = ap (λ (z : ℤ). pos a -ℤ z) (difference_sub a b c) ∙ by (b + c)
  where
    by : (x : ℕ) → pos a -ℤ sub_ℕ a x ≡ pos x
    by x =
        both (ltb a x)
        (λ e. let p = ltb-true a x e in let q : a + suc (x - suc a) ≡ x = omega arith in simp e (ap pos q))
        (λ e. let p = ltb-false a x e in simp e (difference_is x (a - x) a (omega arith)))

-- where b and c rise by x together, the difference falls by x
pub difference_falls : (a b c b' c' x : ℕ) → b' + c' ≡ b + c + x → difference a b c ≡ difference a b' c' +ℤ pos x
difference_falls a b c b' c' x e =
    difference_sub a b c ∙ sym (pos_sub a (b + c)) ∙ sym (-ℤ-+ℤ_cancel (pos a -ℤ pos (b + c)) (pos x))
    ∙ ap (λ (z : ℤ). z +ℤ pos x) (difference_sub a (b + c) x ∙ ap (sub_ℕ a) (sym e) ∙ sym (difference_sub a b' c'))

-- ---- as the machine computes it, at 64 bits: both subtractions fit, and the bits read back are the difference

sub_fits : (a b : ℕ) → a < 2 ^ 61 → b < 2 ^ 62 → SFits w64 (sub_ℕ a b)
sub_fits a b ha hb =
    both (ltb a b) (λ e. record { sfits = simp e (omega arith) }) (λ e. record { sfits = simp e (omega arith) })

module _ (a b c : ℕ) (ha : a < 2 ^ 61) (hb : b < 2 ^ 61) (hc : c < 2 ^ 61) where
  first_is : to_z w64 a -ℤ to_z w64 b ≡ pos a -ℤ pos b
  first_is = simp (to_z_pos w64 a (omega arith), to_z_pos w64 b (omega arith))

  pub first_fits : SFits w64 (to_z w64 a -ℤ to_z w64 b)
  first_fits = rw (first_is, pos_sub a b) (sub_fits a b ha (omega arith))

  second_is : to_z w64 (of_z w64 (to_z w64 a -ℤ to_z w64 b)) -ℤ to_z w64 c ≡ difference a b c
  second_is =
      ap (λ (z : ℤ). z -ℤ to_z w64 c) (to_z-of_z first_fits ∙ first_is)
      ∙ ap (λ (z : ℤ). pos a -ℤ pos b -ℤ z) (to_z_pos w64 c (omega arith))

  pub second_fits : SFits w64 (to_z w64 (of_z w64 (to_z w64 a -ℤ to_z w64 b)) -ℤ to_z w64 c)
  second_fits = rw (second_is, difference_sub a b c) (sub_fits a (b + c) ha (omega arith))

  pub difference_back : to_z w64 (of_z w64 (to_z w64 (of_z w64 (to_z w64 a -ℤ to_z w64 b)) -ℤ to_z w64 c)) ≡ difference a b c
  difference_back = to_z-of_z second_fits ∙ second_is
