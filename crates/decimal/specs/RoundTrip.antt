-- A number reads back as it was written, and a field that is a number is the one text of it. Assumes nothing.
use Rattle.std.specs.Prelude.{Some, None, ℕ, ◌+◌, ◌-◌, ◌*◌, ◌/◌, ◌%◌, ◌≤◌, ◌<◌, ◌≡◌, refl, Bool, true, false, not, ◌&&◌, cond, List, [], ◌∷◌, ◌++◌, leb, ltb, eqb, length, get_or}
use Rattle.std.proofs.Common.{sym, ap, ◌∙◌, append_assoc, append-nil, zero-add, arith, ne_eqb, le-leb, leb-true, ltb-true, ltb-false}
use Rattle.std.proofs.Math.Bool.{or-true}
use Rattle.std.proofs.lemmas.Bool.{false≢true, eqb-false, not-true}
use Rattle.std.proofs.Math.ListN.{get_or-append}
use Rattle.bounded.specs.Tests.{both, and-true}
use Rattle.decimal.specs.Decimal.{decimal, glyph, by_digits, decimal_small, decimal_large, decimal_some}
use Rattle.decimal.specs.Number.{is_digit, all_digits, value_from, plain, digits_of, number_of, plain_none, plain_many}

-- ---- a digit at the end

digits_end : (l : List ℕ) (b : ℕ) → all_digits l ≡ true → is_digit b ≡ true → all_digits (l ++ b ∷ []) ≡ true
unfolding all_digits
digits_end [] b e f = simp f
digits_end (a ∷ l) b e f = let p = and-true (is_digit a) (all_digits l) e in simp (p.0, digits_end l b p.1 f)

value_end : (l : List ℕ) (v b : ℕ) → value_from v (l ++ b ∷ []) ≡ 10 * value_from v l + (b - 48)
unfolding value_from
value_end [] v b = refl
value_end (a ∷ l) v b = value_end l (10 * v + (a - 48)) b

glyph_digit : (d : ℕ) → d < 10 → is_digit (glyph d) ≡ true
glyph_digit d h = simp (le-leb 48 (48 + d) (omega arith), le-leb (48 + d) 57 (omega arith))

-- ---- from the number to the text and back

pub decimal_digits : (n : ℕ) → all_digits (decimal n) ≡ true
unfolding all_digits
decimal_digits =
    by_digits (λ n. all_digits (decimal n) ≡ true) (λ n h. rw (decimal_small n h) (digits_end [] (glyph n) refl (glyph_digit n h)))
    λ n h e. rw (decimal_large n h) (digits_end (decimal (n / 10)) (glyph (n % 10)) e (glyph_digit (n % 10) (omega arith)))

pub value_back : (n : ℕ) → value_from 0 (decimal n) ≡ n
unfolding value_from
value_back =
    by_digits (λ n. value_from 0 (decimal n) ≡ n) (λ n h. rw (decimal_small n h) (omega arith))
    λ n h e. rw (decimal_large n h, value_end (decimal (n / 10)) 0 (glyph (n % 10)), e) (omega arith)

-- no leading zero
decimal_first : (n : ℕ) → 1 ≤ n → get_or (decimal n) 0 0 ≡ 48 → ⊥
decimal_first =
    by_digits (λ n. 1 ≤ n → get_or (decimal n) 0 0 ≡ 48 → ⊥) (λ n h o e. let z = rw (decimal_small n h) at e in omega arith)
    λ n h more o e.
    more (omega arith)
    (sym (get_or-append (decimal (n / 10)) (glyph (n % 10) ∷ []) 0 0 (decimal_some (n / 10))) ∙ (rw (decimal_large n h) at e))

pub plain_back : (n : ℕ) → plain (decimal n) ≡ true
unfolding plain
plain_back n =
    both (ltb n 10) (λ e. rw (decimal_small n (ltb-true n 10 e)) (simp or-true))
    λ e. let some : length (decimal n) ≡ 0 → ⊥ = λ z. omega (arith, decimal_some n) in
    let first : get_or (decimal n) 0 0 ≡ 48 → ⊥ = decimal_first n (omega (arith, ltb-false n 10 e)) in
    simp (ne_eqb _ _ some, ne_eqb _ _ first)

pub read_back : (n : ℕ) → n ≤ 4294967295 → number_of (decimal n) ≡ Some n
unfolding number_of digits_of
read_back n h = simp (plain_back, decimal_digits, value_back, le-leb n 4294967295 h)

-- ---- from the text to the number and back

digit_range : (b : ℕ) → is_digit b ≡ true → (48 ≤ b) × (b ≤ 57)
digit_range b e = let p = and-true (leb 48 b) (leb b 57) e in (leb-true 48 b p.0, leb-true b 57 p.1)

-- one more digit
decimal_end : (v b : ℕ) → 1 ≤ v → is_digit b ≡ true → decimal (10 * v + (b - 48)) ≡ decimal v ++ b ∷ []
decimal_end v b h e =
    let r = digit_range b e in
    let q : (10 * v + (b - 48)) / 10 ≡ v = omega arith in
    let m : glyph ((10 * v + (b - 48)) % 10) ≡ b = omega arith in
    decimal_large (10 * v + (b - 48)) (omega arith) ∙ rw (q, m)

-- more digits after those of v, which is not 0
decimal_after : (l : List ℕ) (v : ℕ) → 1 ≤ v → all_digits l ≡ true → decimal (value_from v l) ≡ decimal v ++ l
unfolding all_digits value_from
decimal_after [] v h e = sym (append-nil (decimal v))
decimal_after (b ∷ l) v h e =
    let p = and-true (is_digit b) (all_digits l) e in
    decimal_after l (10 * v + (b - 48)) (omega arith) p.1 ∙ rw (decimal_end v b h p.0, append_assoc)

decimal_digit : (b : ℕ) → is_digit b ≡ true → decimal (b - 48) ≡ b ∷ []
decimal_digit b e =
    let r = digit_range b e in
    let g : glyph (b - 48) ≡ b = omega arith in
    decimal_small (b - 48) (omega arith) ∙ rw g

-- digits without leading zeros are the text of their value
pub text_back : (l : List ℕ) → plain l ≡ true → all_digits l ≡ true → decimal (value_from 0 l) ≡ l
unfolding all_digits value_from
text_back [] p d = absurd (false≢true (plain_none [] refl ∙ p))
text_back (b ∷ []) p d = rw zero-add (decimal_digit b (and-true (is_digit b) true d).0)
text_back (b ∷ a ∷ l) p d =
    let i = and-true (is_digit b) (all_digits (a ∷ l)) d in
    let r = digit_range b i.0 in
    let q : not (eqb b 48) ≡ true = plain_many (b ∷ a ∷ l) (λ z. omega arith) (λ z. omega arith) ∙ p in
    let n = eqb-false b 48 (not-true (eqb b 48) q) in
    rw zero-add (decimal_after (a ∷ l) (b - 48) (omega arith) i.1 ∙ rw (decimal_digit b i.0))

-- two tests that leave a number both passed
chosen : (p q : Bool) (v n : ℕ) → cond p (cond q (Some v) None) None ≡ Some n → (p ≡ true) × (q ≡ true) × (v ≡ n)
chosen true true v n e = (refl, refl, cc)
chosen true false v n e = let z : ◌≡◌ {A = ℕ} 0 1 = cc in absurd (omega arith)
chosen false q v n e = let z : ◌≡◌ {A = ℕ} 0 1 = cc in absurd (omega arith)

pub write_back : (l : List ℕ) (n : ℕ) → number_of l ≡ Some n → decimal n ≡ l
unfolding number_of digits_of
write_back l n e =
    let c = chosen (plain l) (all_digits l && leb (value_from 0 l) 4294967295) (value_from 0 l) n e in
    let d = and-true (all_digits l) (leb (value_from 0 l) 4294967295) c.1 in
    ap decimal (sym c.2) ∙ text_back l c.0 d.0

-- 32 bits hold it
pub number_narrow : (l : List ℕ) (n : ℕ) → number_of l ≡ Some n → n ≤ 4294967295
unfolding number_of digits_of
number_narrow l n e =
    let c = chosen (plain l) (all_digits l && leb (value_from 0 l) 4294967295) (value_from 0 l) n e in
    omega (arith, leb-true (value_from 0 l) 4294967295 (and-true (all_digits l) (leb (value_from 0 l) 4294967295) c.1).1, c.2)
