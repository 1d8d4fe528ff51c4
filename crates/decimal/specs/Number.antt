-- Which fields are numbers: decimal u32 without leading zeros (docs/SPECIFICATION.md §8.1). Assumes nothing.
use Rattle.std.specs.Prelude.{Option, Some, None, ℕ, ◌+◌, ◌-◌, ◌*◌, ◌≤◌, ◌<◌, ◌≡◌, refl, Bool, true, false, not, ◌&&◌, ◌||◌, cond, List, [], ◌∷◌, leb, eqb, length, get_or, drop}
use Rattle.std.proofs.Common.{sym, ◌∙◌, add-one, arith, drop_of_length-le, drop-cons}
use Rattle.std.proofs.Math.Path.{ap}
use Rattle.std.proofs.Math.Bool.{and-false, or-true, or-false}
use borrow.Author.Tests.{eq-eqb, ne_eqb, le-leb, lt-leb}

abbrev pub is_digit : ℕ → Bool
is_digit b = leb 48 b && leb b 57

unfoldable pub all_digits : List ℕ → Bool
all_digits [] = true
all_digits (b ∷ l) = is_digit b && all_digits l

-- the value of the digits l after digits of value v
unfoldable pub value_from : ℕ → List ℕ → ℕ
value_from v [] = v
value_from v (b ∷ l) = value_from (10 * v + (b - 48)) l

-- there is a digit at least, and a 0 in front stands alone
unfoldable pub plain : List ℕ → Bool
plain l = not (eqb (length l) 0) && (not (eqb (get_or l 0 0) 48) || eqb (length l) 1)

-- digits of a value that a u32 holds
unfoldable pub digits_of : List ℕ → Option ℕ
digits_of l = cond (all_digits l && leb (value_from 0 l) 4294967295) (Some (value_from 0 l)) None

unfoldable pub number_of : List ℕ → Option ℕ
number_of l = cond (plain l) (digits_of l) None

-- ---- `is_plain`

pub plain_none : (l : List ℕ) → length l ≡ 0 → false ≡ plain l
unfolding plain
plain_none l e = simp (eq-eqb _ _ e)

pub plain_one : (l : List ℕ) → length l ≡ 1 → true ≡ plain l
unfolding plain
plain_one l e = simp (e, or-true)

pub plain_many : (l : List ℕ) → (length l ≡ 0 → ⊥) → (length l ≡ 1 → ⊥) → not (eqb (get_or l 0 0) 48) ≡ plain l
unfolding plain
plain_many l h k = simp (ne_eqb _ _ h, ne_eqb _ _ k, or-false)

pub ruleset plain_cases = (plain_none, plain_one, plain_many)

-- ---- `read_digits`

-- more digits do not make a value less
value_grows : (v : ℕ) (l : List ℕ) → v ≤ value_from v l
unfolding value_from
value_grows v [] = omega arith
value_grows v (b ∷ l) = omega (arith, value_grows (10 * v + (b - 48)) l)

-- the first i bytes of l are digits of value v, so that the rest alone decides what l is
pub record Read (l : List ℕ) (v i : ℕ) : Type 0 where
  pub small : v ≤ 4294967295
  pub digits : all_digits l ≡ all_digits (drop i l)
  pub value : value_from 0 l ≡ value_from v (drop i l)

drop_next : (l : List ℕ) (i : ℕ) → i < length l → drop i l ≡ get_or l i 0 ∷ drop (i + 1) l
drop_next l i h = rw (add-one, drop-cons l i 0)

pub read_start : (l : List ℕ) → Read l 0 0
read_start l = record { small = omega arith; digits = refl; value = refl }

module _ (l : List ℕ) (v i : ℕ) (r : Read l v i) (h : i < length l) where
  digits_next : all_digits l ≡ (is_digit (get_or l i 0) && all_digits (drop (i + 1) l))
  unfolding all_digits
  digits_next = r.digits ∙ ap all_digits (drop_next l i h)

  value_next : value_from 0 l ≡ value_from (10 * v + (get_or l i 0 - 48)) (drop (i + 1) l)
  unfolding value_from
  value_next = r.value ∙ ap (value_from v) (drop_next l i h)

  pub read_low : get_or l i 0 < 48 → None ≡ digits_of l
  unfolding digits_of
  read_low k = simp (digits_next, lt-leb _ _ k)

  pub read_high : 57 < get_or l i 0 → None ≡ digits_of l
  unfolding digits_of
  read_high k = simp (digits_next, lt-leb _ _ k, and-false)

  pub read_great : 4294967295 < 10 * v + (get_or l i 0 - 48) → None ≡ digits_of l
  unfolding digits_of
  read_great k =
      let g : 4294967295 < value_from 0 l = omega (arith, value_next, value_grows (10 * v + (get_or l i 0 - 48)) (drop (i + 1) l)) in
      simp (lt-leb _ _ g, and-false)

  pub read_next : (d : ℕ) → d ≡ get_or l i 0 - 48 → 48 ≤ get_or l i 0 → get_or l i 0 ≤ 57 → 10 * v + d ≤ 4294967295 → Read l (10 * v + d) (i + 1)
  read_next d e a b k = record {
    small = k;
    digits = digits_next ∙ simp (le-leb _ _ a, le-leb _ _ b);
    value = rw e value_next;
  }

pub read_done : (l : List ℕ) (v i : ℕ) → Read l v i → length l ≤ i → Some v ≡ digits_of l
unfolding digits_of all_digits value_from
read_done l v i r h =
    let none : drop i l ≡ [] = drop_of_length-le l h in
    let e : value_from 0 l ≡ v = r.value ∙ ap (value_from v) none in
    let d : all_digits l ≡ true = r.digits ∙ ap all_digits none in
    simp (d, e, le-leb _ _ r.small)

pub ruleset read_cases = (read_start, read_low, read_high, read_great, read_next, read_done)

-- ---- `read_number`

pub number_plain : (l : List ℕ) (b : Bool) (r : Option ℕ) → b ≡ plain l → b ≡ true → r ≡ digits_of l → r ≡ number_of l
unfolding number_of
number_plain l b r e t d = d ∙ sym (simp (sym e ∙ t))

pub number_not : (l : List ℕ) (b : Bool) → b ≡ plain l → b ≡ false → None ≡ number_of l
unfolding number_of
number_not l b e f = simp (sym e ∙ f)

pub ruleset number_cases = (number_plain, number_not)
