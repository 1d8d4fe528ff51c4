-- The cases of the code that reads lines. Assumes nothing.
use Rattle.std.specs.Prelude.{Option, Some, None, ℕ, ◌+◌, ◌<◌, ◌≡◌, refl, false, eqb, length, get_or, take, drop}
use Rattle.std.proofs.Math.Path.{sym}
use Rattle.std.proofs.Common.{ap, ◌∙◌, arith}
use mathlib.Core.List.{List, [], ◌∷◌}
use Rattle.std.proofs.Math.Logic.{dite}
use Rattle.std.proofs.Math.Decide.{dec_lt}
use borrow.Author.Tests.{eq-eqb, ne_eqb, eqb-true}
use Rattle.lines.specs.Index.{index_of, index_after}
use Rattle.bounded.specs.Tests.{both}
use Rattle.decimal.specs.Number.{is_digit, all_digits, plain, digits_of, number_of}
use Rattle.lines.specs.declared.read.Call.TheVariants.{Arrive, Choose, Advance, Finish}
use Rattle.lines.specs.declared.read.Line.{Line}
use Rattle.lines.specs.declared.read.Line.TheVariants.{Row, Word, Call, Empty, Unreadable}
use Rattle.lines.specs.Parted.{parted, on_first, parted_none, parted_some, parted_not_none, Found, parted_whole, parted_at, tail_is}
use Rattle.lines.specs.Line.{letter_of, bare_of, single_of_lem, triple_of, given, given_three, line_in, line_of}

-- ---- a letter

module _ (c : ℕ) where
  pub bare_choose : c ≡ 71 → Call Choose ≡ bare_of c
  unfolding bare_of
  bare_choose e = simp (eq-eqb c 71 e)

  pub bare_finish : (c ≡ 71 → ⊥) → c ≡ 70 → Call Finish ≡ bare_of c
  unfolding bare_of
  bare_finish n e = simp (ne_eqb c 71 n, eq-eqb c 70 e)

  pub bare_other : (c ≡ 71 → ⊥) → (c ≡ 70 → ⊥) → Unreadable ≡ bare_of c
  unfolding bare_of
  bare_other n m = simp (ne_eqb c 71 n, ne_eqb c 70 m)

pub ruleset bare_cases = (bare_choose, bare_finish, bare_other)

module _ (c n : ℕ) where
  pub single_word : c ≡ 87 → Word n ≡ single_of_lem c n
  unfolding single_of_lem
  single_word e = simp (eq-eqb c 87 e)

  pub single_arrive : (c ≡ 87 → ⊥) → c ≡ 65 → Call (Arrive n) ≡ single_of_lem c n
  unfolding single_of_lem
  single_arrive a e = simp (ne_eqb c 87 a, eq-eqb c 65 e)

  pub single_advance : (c ≡ 87 → ⊥) → (c ≡ 65 → ⊥) → c ≡ 82 → Call (Advance n) ≡ single_of_lem c n
  unfolding single_of_lem
  single_advance a b e = simp (ne_eqb c 87 a, ne_eqb c 65 b, eq-eqb c 82 e)

  pub single_other : (c ≡ 87 → ⊥) → (c ≡ 65 → ⊥) → (c ≡ 82 → ⊥) → Unreadable ≡ single_of_lem c n
  unfolding single_of_lem
  single_other a b d = simp (ne_eqb c 87 a, ne_eqb c 65 b, ne_eqb c 82 d)

pub ruleset single_cases = (single_word, single_arrive, single_advance, single_other)

pub row_given : (a b c : Option ℕ) (x y z : ℕ) → a ≡ Some x → b ≡ Some y → c ≡ Some z → Row x y z ≡ given_three (triple_of 84) a b c
unfolding triple_of
row_given a b c x y z e f g = rw (e, f, g)

-- ---- numbers

-- nothing readable comes of a number, whichever it is
given_none : (f : ℕ → Line) → ((n : ℕ) → f n ≡ Unreadable) → (x : Option ℕ) → given f x ≡ Unreadable
given_none f h (Some n) = h n
given_none f h None = refl

given_three_none : (f : ℕ → ℕ → ℕ → Line) → ((x y z : ℕ) → f x y z ≡ Unreadable) → (a b c : Option ℕ) → given_three f a b c ≡ Unreadable
given_three_none f h a b c = given_none _ (λ x. given_none _ (λ y. given_none _ (λ z. h x y z) c) b) a

last_none : (f : ℕ → ℕ → ℕ → Line) (a b : Option ℕ) → given_three f a b None ≡ Unreadable
last_none f a b = given_none _ (λ x. given_none _ (λ y. refl) b) a

-- a tab is no digit
tab_digits : (l : List ℕ) → index_of 9 l < length l → all_digits l ≡ false
unfolding all_digits index_of index_after
tab_digits [] h = absurd (omega arith)
tab_digits (b ∷ l) h =
    both (eqb b 9) (λ e. rw (eqb-true b 9 e))
    (λ e. let k : index_of 9 l < length l = omega (arith, simp e at h) in both (is_digit b) (λ d. simp (d, tab_digits l k)) (λ d. simp d))

tab_number : (l : List ℕ) → index_of 9 l < length l → number_of l ≡ None
unfolding number_of digits_of
tab_number l h = simp (tab_digits l h) (both (plain l) (λ e. simp e) (λ e. simp e))

-- ---- fields

-- a first field that is no letter
no_letter : (p : List ℕ) → letter_of p ≡ 0 → (l : List (List ℕ)) → line_in (p ∷ l) ≡ Unreadable
unfolding bare_of single_of_lem triple_of
no_letter p e [] = simp e
no_letter p e (q ∷ []) = given_none _ (λ n. simp e) (number_of q)
no_letter p e (q ∷ r ∷ []) = refl
no_letter p e (q ∷ r ∷ s ∷ []) = given_three_none _ (λ x y z. simp e) (number_of q) (number_of r) (number_of s)
no_letter p e (q ∷ r ∷ s ∷ t ∷ l) = refl

-- ---- a letter and one number

single_more : (c : ℕ) → (c ≡ 84 → ⊥) → (p : List ℕ) (l : List (List ℕ)) → (l ≡ [] → ⊥) → line_in ((c ∷ []) ∷ p ∷ l) ≡ Unreadable
unfolding triple_of
single_more c n p [] h = absurd (h refl)
single_more c n p (q ∷ []) h = refl
single_more c n p (q ∷ r ∷ []) h =
    given_three_none _ (λ x y z. simp (ne_eqb c 84 n)) (number_of p) (number_of q) (number_of r)
single_more c n p (q ∷ r ∷ s ∷ l) h = refl

single_line : (c : ℕ) → (c ≡ 84 → ⊥) → (t : List ℕ) → line_in ((c ∷ []) ∷ parted 9 t) ≡ given (single_of_lem c) (number_of t)
single_line c n t =
    dite (dec_lt (index_of 9 t) (length t))
    (λ h.
    ap (λ (x : List (List ℕ)). line_in ((c ∷ []) ∷ x)) (parted_some 9 t h)
    ∙ single_more c n _ _ (parted_not_none 9 _)
    ∙ sym (ap (given (single_of_lem c)) (tab_number t h)))
    (λ h. ap (λ (x : List (List ℕ)). line_in ((c ∷ []) ∷ x)) (parted_none 9 t (omega arith)))

module _ (c n : ℕ) (x y : Option ℕ) (e : x ≡ y) where
  pub single_of : (r : Line) → x ≡ Some n → r ≡ single_of_lem c n → r ≡ given (single_of_lem c) y
  single_of r f h = h ∙ ap (given (single_of_lem c)) (sym f ∙ e)

  pub single_none : x ≡ None → Unreadable ≡ given (single_of_lem c) y
  single_none f = ap (given (single_of_lem c)) (sym f ∙ e)

pub ruleset number_cases = (single_of, single_none)

-- ---- a row

row_last : (p q h : List ℕ) → line_in ((84 ∷ []) ∷ p ∷ q ∷ parted 9 h) ≡ given_three (triple_of 84) (number_of p) (number_of q) (number_of h)
row_last p q h =
    dite (dec_lt (index_of 9 h) (length h))
    (λ k.
    ap (λ (x : List (List ℕ)). line_in ((84 ∷ []) ∷ p ∷ q ∷ x)) (parted_some 9 h k)
    ∙ more (take (index_of 9 h) h) _ (parted_not_none 9 _)
    ∙ sym (ap (given_three (triple_of 84) (number_of p) (number_of q)) (tab_number h k) ∙ last_none (triple_of 84) (number_of p) (number_of q)))
    (λ k. ap (λ (x : List (List ℕ)). line_in ((84 ∷ []) ∷ p ∷ q ∷ x)) (parted_none 9 h (omega arith)))
  where
    more : (r : List ℕ) (l : List (List ℕ)) → (l ≡ [] → ⊥) → line_in ((84 ∷ []) ∷ p ∷ q ∷ r ∷ l) ≡ Unreadable
    more r [] n = absurd (n refl)
    more r (s ∷ l) n = refl

module _ (t : List ℕ) where
  pub row_one : Found 9 t None → Unreadable ≡ line_in ((84 ∷ []) ∷ parted 9 t)
  unfolding single_of_lem
  row_one k = sym (ap (λ (x : List (List ℕ)). line_in ((84 ∷ []) ∷ x)) (parted_whole 9 t k) ∙ given_none _ (λ n. refl) (number_of t))

  module _ (e : ℕ) (h : Found 9 t (Some e)) (m : List ℕ) (i : m ≡ drop (e + 1) t) where
    row_rest : line_in ((84 ∷ []) ∷ parted 9 t) ≡ line_in ((84 ∷ []) ∷ take e t ∷ parted 9 m)
    row_rest =
        ap (λ (x : List (List ℕ)). line_in ((84 ∷ []) ∷ x)) (parted_at 9 t e h)
        ∙ ap (λ (x : List ℕ). line_in ((84 ∷ []) ∷ take e t ∷ parted 9 x)) (sym i)

    pub row_two : Found 9 m None → Unreadable ≡ line_in ((84 ∷ []) ∷ parted 9 t)
    row_two j = sym (row_rest ∙ ap (λ (x : List (List ℕ)). line_in ((84 ∷ []) ∷ take e t ∷ x)) (parted_whole 9 m j))

    pub row_three : (f : ℕ) (a b d : Option ℕ) (h : List ℕ) (r : Line) → Found 9 m (Some f) → a ≡ number_of (take e t) → b ≡ number_of (take f m)
        → d ≡ number_of h → h ≡ drop (f + 1) m → r ≡ given_three (triple_of 84) a b d → r ≡ line_in ((84 ∷ []) ∷ parted 9 t)
    row_three f a b d h r g ea eb ed eh er =
        er ∙ (rw (ea, eb, ed, eh) (sym (row_last (take e t) (take f m) (drop (f + 1) m))))
        ∙ ap (λ (x : List (List ℕ)). line_in ((84 ∷ []) ∷ take e t ∷ x)) (sym (parted_at 9 m f g))
        ∙ sym row_rest

pub ruleset row_cases = (row_one, row_two, row_three, tail_is)

-- ---- a line

two_bytes : (b e : ℕ) (l : List (List ℕ)) → line_in (on_first b (on_first e l)) ≡ Unreadable
two_bytes b e [] = no_letter (b ∷ e ∷ []) refl []
two_bytes b e (p ∷ l) = no_letter (b ∷ e ∷ p) refl l

pub line_empty : (l : List ℕ) → length l ≡ 0 → Empty ≡ line_of l
unfolding line_of
line_empty [] h = refl
line_empty (b ∷ l) h = absurd (omega arith)

pub line_bare : (l : List ℕ) (r : Line) → length l ≡ 1 → r ≡ bare_of (get_or l 0 0) → r ≡ line_of l
unfolding line_of parted bare_of
line_bare [] r h f = absurd (omega arith)
line_bare (b ∷ []) r h f =
    both (eqb b 9) (λ t. f ∙ ap bare_of (eqb-true b 9 t) ∙ sym (simp t (no_letter [] refl ([] ∷ [])))) (λ t. f ∙ sym (simp t))
line_bare (b ∷ d ∷ l) r h f = absurd (omega arith)

pub line_tab : (l : List ℕ) → (length l ≡ 0 → ⊥) → get_or l 0 0 ≡ 9 → Unreadable ≡ line_of l
unfolding line_of parted
line_tab [] n t = absurd (n refl)
line_tab (b ∷ l) n t = sym (simp (eq-eqb b 9 t) (no_letter [] refl (parted 9 l)))

pub line_long : (l : List ℕ) → (length l ≡ 0 → ⊥) → (length l ≡ 1 → ⊥) → (get_or l 0 0 ≡ 9 → ⊥) → (get_or l 1 0 ≡ 9 → ⊥) → Unreadable ≡ line_of l
unfolding line_of parted
line_long [] n m t u = absurd (n refl)
line_long (a ∷ []) n m t u = absurd (m refl)
line_long (a ∷ b ∷ l) n m t u = sym (simp (ne_eqb a 9 t, ne_eqb b 9 u) (two_bytes a b (parted 9 l)))

pub line_letter : (l : List ℕ) → (length l ≡ 0 → ⊥) → (length l ≡ 1 → ⊥) → (get_or l 0 0 ≡ 9 → ⊥) → get_or l 1 0 ≡ 9
    → line_of l ≡ line_in ((get_or l 0 0 ∷ []) ∷ parted 9 (drop 2 l))
unfolding line_of parted
line_letter [] n m t u = absurd (n refl)
line_letter (a ∷ []) n m t u = absurd (m refl)
line_letter (a ∷ b ∷ l) n m t u = simp (ne_eqb a 9 t, eq-eqb b 9 u)

module _ (l rest : List ℕ) (r : Line) (n : length l ≡ 0 → ⊥) (m : length l ≡ 1 → ⊥) (t : get_or l 0 0 ≡ 9 → ⊥) (u : get_or l 1 0 ≡ 9) (i : rest ≡ drop 2 l) where
  pub line_row : get_or l 0 0 ≡ 84 → r ≡ line_in ((84 ∷ []) ∷ parted 9 rest) → r ≡ line_of l
  line_row k h = h ∙ rw (i, ← k) (sym (line_letter l n m t u))

  pub line_single : (get_or l 0 0 ≡ 84 → ⊥) → r ≡ given (single_of_lem (get_or l 0 0)) (number_of rest) → r ≡ line_of l
  line_single k h = h ∙ rw i (sym (single_line (get_or l 0 0) k (drop 2 l))) ∙ sym (line_letter l n m t u)

pub ruleset line_cases = (line_empty, line_bare, line_tab, line_long, line_row, line_single, tail_is)
