-- The lines of a text (docs/SPECIFICATION.md §8.2). Assumes nothing.
use Rattle.std.specs.Prelude.{Option, Some, None, ℕ, suc, ◌+◌, ◌≤◌, ◌<◌, min, ◌≡◌, refl, eqb, take}
use Rattle.std.proofs.Math.Path.{sym, ap}
use Rattle.std.proofs.Common.{◌∙◌}
use mathlib.Core.List.{List, [], ◌∷◌}
use native.Mathlib.Omega.{arith}
use Rattle.bounded.specs.Tests.{both}
use Rattle.std.proofs.Math.ListN.{length, drop, length-drop}
use Rattle.std.proofs.Math.Seq.{drop-drop, drop-length, length-take-le}
use Rattle.lines.specs.Index.{index_of}
use Rattle.decimal.specs.Number.{plain, number_of}
use Rattle.lines.specs.declared.read.Call.TheVariants.{Arrive, Choose, Advance, Finish}
use Rattle.lines.specs.declared.read.Line.{Line}
use Rattle.lines.specs.declared.read.Line.TheVariants.{Row, Word, Call, Empty, Unreadable}
use Rattle.lines.specs.declared.read.Next.{Next}
use Rattle.lines.specs.Parted.{parted, on_first, parted_not_none, Found, found_some, found_none, parted_whole, parted_at, tail_is}
use Rattle.lines.specs.Line.{letter_of, bare_of, single_of_lem, triple_of, given, given_three, line_in, line_of}

-- the lines of a text, each without its newline and read by f: all parts but the last are ended by a newline, and bytes after the
-- last newline are one more line, which is u
abbrev pub lines_in : {L : Type 0} → (List ℕ → L) → L → List (List ℕ) → List L
lines_in f u [] = []
lines_in f u ([] ∷ []) = []
lines_in f u ((b ∷ p) ∷ []) = u ∷ []
lines_in f u (p ∷ q ∷ l) = f p ∷ lines_in f u (q ∷ l)

unfoldable pub lines_by : {L : Type 0} → (List ℕ → L) → L → List ℕ → List L
lines_by f u l = lines_in f u (parted 10 l)

-- as `shuffle` reads them: bytes after the last newline are unreadable
unfoldable pub lines_of : List ℕ → List Line
lines_of l = lines_by line_of Unreadable l

-- how many bytes a line takes at least, with its newline
abbrev pub least_size : Line → ℕ
least_size (Row c t d) = 8
least_size (Word w) = 4
least_size (Call (Arrive row)) = 4
least_size (Call Choose) = 2
least_size (Call (Advance n)) = 4
least_size (Call Finish) = 2
least_size Empty = 1
least_size Unreadable = 1

pub size_some : (x : Line) → 1 ≤ least_size x
size_some (Row c t d) = omega arith
size_some (Word w) = omega arith
size_some (Call (Arrive row)) = omega arith
size_some (Call Choose) = omega arith
size_some (Call (Advance n)) = omega arith
size_some (Call Finish) = omega arith
size_some Empty = omega arith
size_some Unreadable = omega arith

-- how many bytes fields take, each with the tab or newline after it
width : List (List ℕ) → ℕ
width [] = 0
width (p ∷ l) = length p + 1 + width l

parted_width : (sep : ℕ) (l : List ℕ) → width (parted sep l) ≡ length l + 1
unfolding parted width
parted_width sep [] = refl
parted_width sep (b ∷ l) =
    both (eqb b sep) (λ e. simp e (omega (arith, parted_width sep l)))
    (λ e. simp e (omega (arith, first (parted sep l) (parted_not_none sep l), parted_width sep l)))
  where
    first : (m : List (List ℕ)) → (m ≡ [] → ⊥) → width (on_first b m) ≡ suc (width m)
    first [] n = absurd (n refl)
    first (p ∷ m) n = omega arith

size_given : (f : ℕ → Line) (m : ℕ) → 1 ≤ m → ((n : ℕ) → least_size (f n) ≤ m) → (x : Option ℕ) → least_size (given f x) ≤ m
size_given f m h k (Some n) = k n
size_given f m h k None = h

size_three : (f : ℕ → ℕ → ℕ → Line) (m : ℕ) → 1 ≤ m → ((x y z : ℕ) → least_size (f x y z) ≤ m) → (a b c : Option ℕ) → least_size (given_three f a b c) ≤ m
size_three f m h k (Some x) (Some y) (Some z) = k x y z
size_three f m h k (Some x) (Some y) None = h
size_three f m h k (Some x) None c = h
size_three f m h k None b c = h

size_second : (f : ℕ → ℕ → ℕ → Line) (a c : Option ℕ) → least_size (given_three f a None c) ≤ 1
size_second f (Some x) c = omega arith
size_second f None c = omega arith

size_third : (f : ℕ → ℕ → ℕ → Line) (a b : Option ℕ) → least_size (given_three f a b None) ≤ 1
size_third f (Some x) (Some y) = omega arith
size_third f (Some x) None = omega arith
size_third f None b = omega arith

size_bare : (c : ℕ) → least_size (bare_of c) ≤ 2
unfolding bare_of
size_bare c = both (eqb c 71) (λ e. simp e (omega arith)) (λ e. both (eqb c 70) (λ f. simp (e, f) (omega arith)) (λ f. simp (e, f) (omega arith)))

size_single : (c n : ℕ) → least_size (single_of_lem c n) ≤ 4
unfolding single_of_lem
size_single c n =
    both (eqb c 87) (λ e. simp e (omega arith))
    (λ e.
    both (eqb c 65) (λ f. simp (e, f) (omega arith))
    (λ f. both (eqb c 82) (λ g. simp (e, f, g) (omega arith)) (λ g. simp (e, f, g) (omega arith))))

size_triple : (c x y z : ℕ) → least_size (triple_of c x y z) ≤ 8
unfolding triple_of
size_triple c x y z = both (eqb c 84) (λ e. simp e (omega arith)) (λ e. simp e (omega arith))

-- an empty field is no letter and no number
size_fields : (l : List (List ℕ)) → (l ≡ [] → ⊥) → least_size (line_in l) ≤ width l
unfolding width bare_of single_of_lem triple_of number_of plain
size_fields [] n = absurd (n refl)
size_fields ([] ∷ []) n = omega arith
size_fields ((c ∷ []) ∷ []) n = omega (arith, size_bare c)
size_fields ((c ∷ b ∷ p) ∷ []) n = omega arith
size_fields (c ∷ [] ∷ []) n = omega arith
size_fields ([] ∷ (x ∷ p) ∷ []) n = omega (arith, size_given (single_of_lem 0) 1 (omega arith) (λ m. omega arith) (number_of (x ∷ p)))
size_fields ((b ∷ c) ∷ (x ∷ p) ∷ []) n =
    omega (arith, size_given (single_of_lem (letter_of (b ∷ c))) 4 (omega arith) (size_single (letter_of (b ∷ c))) (number_of (x ∷ p)))
size_fields (c ∷ p ∷ q ∷ []) n = omega arith
size_fields ([] ∷ p ∷ q ∷ r ∷ []) n =
    omega (arith, size_three (triple_of 0) 1 (omega arith) (λ x y z. omega arith) (number_of p) (number_of q) (number_of r))
size_fields ((b ∷ c) ∷ [] ∷ q ∷ r ∷ []) n = omega arith
size_fields ((b ∷ c) ∷ (x ∷ p) ∷ [] ∷ r ∷ []) n =
    omega (arith, size_second (triple_of (letter_of (b ∷ c))) (number_of (x ∷ p)) (number_of r))
size_fields ((b ∷ c) ∷ (x ∷ p) ∷ (y ∷ q) ∷ [] ∷ []) n =
    omega (arith, size_third (triple_of (letter_of (b ∷ c))) (number_of (x ∷ p)) (number_of (y ∷ q)))
size_fields ((b ∷ c) ∷ (x ∷ p) ∷ (y ∷ q) ∷ (z ∷ r) ∷ []) n =
    omega (
      arith,
      size_three (triple_of (letter_of (b ∷ c))) 8 (omega arith) (size_triple (letter_of (b ∷ c)))
          (number_of (x ∷ p)) (number_of (y ∷ q)) (number_of (z ∷ r)),
    )
size_fields (c ∷ p ∷ q ∷ r ∷ t ∷ l) n = omega arith

pub line_size : (l : List ℕ) → least_size (line_of l) ≤ length l + 1
unfolding line_of
line_size [] = omega arith
line_size (b ∷ l) = omega (arith, size_fields (parted 9 (b ∷ l)) (parted_not_none 9 (b ∷ l)), parted_width 9 (b ∷ l))

line_some : (l : List ℕ) → (line_of l ≡ Empty → ⊥) → 1 ≤ length l
unfolding line_of
line_some [] n = absurd (n refl)
line_some (b ∷ l) n = omega arith

-- r is the line that begins at a place of l, and the place past it
pub record Took (l : List ℕ) (at : ℕ) (r : Next) : Type 0 where
  pub lines : lines_of (drop at l) ≡ r.line ∷ lines_of (drop r.at l)
  pub past : r.at ≡ min (at + index_of 10 (drop at l) + 1) (length l)
  pub within : r.at ≤ length l
  pub size : at + least_size r.line ≤ r.at
  -- a line that a newline ends has a byte before it, unless it is empty
  pub some : (r.line ≡ Empty → ⊥) → r.at < length l → at + 2 ≤ r.at

-- ---- the code that reads lines

module _ {L : Type 0} (f : List ℕ → L) (u : L) where
  pub lines_none : (l : List ℕ) → lines_by f u (drop (length l) l) ≡ []
  unfolding lines_by parted
  lines_none l = rw (drop-length l)

  pub lines_cons : (p : List ℕ) (l : List (List ℕ)) → (l ≡ [] → ⊥) → lines_in f u (p ∷ l) ≡ f p ∷ lines_in f u l
  lines_cons p [] h = absurd (h refl)
  lines_cons [] (q ∷ l) h = refl
  lines_cons (b ∷ p) (q ∷ l) h = refl

  left_some : (l : List ℕ) → 0 < length l → lines_in f u (l ∷ []) ≡ u ∷ []
  left_some [] h = absurd (omega arith)
  left_some (b ∷ l) h = refl

  -- the line that begins at a place of l
  module _ (l rest : List ℕ) (at : ℕ) (h : at < length l) (i : rest ≡ drop at l) where
    pub next_left : Found 10 rest None → lines_by f u (drop at l) ≡ u ∷ lines_by f u (drop (length l) l)
    unfolding lines_by
    next_left k =
        ap (lines_by f u) (sym i)
        ∙ ap (lines_in f u) (parted_whole 10 rest k)
        ∙ left_some rest (omega (arith, ap length i, length-drop at l))
        ∙ sym (ap (λ (x : List L). u ∷ x) (lines_none l))

    -- e is where the newline is, from there on
    module _ (e : ℕ) (p : Found 10 rest (Some e)) where
      pub next_line : lines_by f u (drop at l) ≡ f (take e rest) ∷ lines_by f u (drop (at + e + 1) l)
      unfolding lines_by
      next_line =
          let past : at + (e + 1) ≡ at + e + 1 = omega arith in
          ap (lines_by f u) (sym i)
          ∙ ap (lines_in f u) (parted_at 10 rest e p)
          ∙ lines_cons (take e rest) _ (parted_not_none 10 _)
          ∙ ap (λ (z : List ℕ). f (take e rest) ∷ lines_by f u z) (ap (drop (e + 1)) i ∙ drop-drop (e + 1) at l ∙ ap (λ (n : ℕ). drop n l) past)

      pub next_within : at + e + 1 ≤ length l
      next_within = omega (arith, (found_some 10 rest e p).within, ap length i, length-drop at l)

pub lines_end : (l : List ℕ) → lines_of (drop (length l) l) ≡ []
unfolding lines_of
lines_end l = lines_none line_of Unreadable l

module _ (l rest : List ℕ) (at : ℕ) (h : at < length l) (i : rest ≡ drop at l) where
  pub took_left : Found 10 rest None → Took l at (record { line = Unreadable; at = length l })
  unfolding lines_of
  took_left k = record {
    lines = next_left line_of Unreadable l rest at h i k;
    past = omega (arith, found_none 10 rest k, ap (index_of 10) i, ap length i, length-drop at l);
    within = omega arith;
    size = omega arith;
    some = λ n h. absurd (omega arith);
  }

  pub took_line : (x : Line) (e : ℕ) → Found 10 rest (Some e) → x ≡ line_of (take e rest) → Took l at (record { line = x; at = at + e + 1 })
  unfolding lines_of
  took_line x e p g =
      let q = found_some 10 rest e p in
      record {
        lines = rw g (next_line line_of Unreadable l rest at h i e p);
        past = omega (arith, q.is, q.within, ap (index_of 10) i, ap length i, length-drop at l);
        within = next_within line_of Unreadable l rest at h i e p;
        size = rw g (omega (arith, line_size (take e rest), length-take-le e rest (omega (arith, q.within))));
        some = λ n h. omega (arith, line_some (take e rest) (λ z. n (g ∙ z)), length-take-le e rest (omega (arith, q.within)));
      }
