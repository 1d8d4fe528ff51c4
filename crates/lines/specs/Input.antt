-- Lines of input as text, and that they read back (docs/SPECIFICATION.md §8.2). Assumes nothing.
use Rattle.std.specs.Prelude.{ℕ, ◌+◌, ◌*◌, ◌≤◌, ◌<◌, ◌≡◌, refl, Bool, true, false, not, ◌&&◌, List, [], ◌∷◌, ◌++◌, leb, eqb, length}
use Rattle.std.proofs.Common.{sym, ap, ◌∙◌, append_assoc, arith, length-append, leb-true, eq-eqb, ne_eqb}
use Rattle.std.proofs.lemmas.Bool.{not-true}
use Rattle.bounded.specs.Tests.{and-true, and_both}
use Rattle.decimal.specs.Decimal.{decimal, decimal_short}
use Rattle.decimal.specs.Number.{is_digit, all_digits}
use Rattle.decimal.specs.RoundTrip.{decimal_digits, read_back}
use Rattle.decimal.specs.Buffer.{Wrote, wrote_more, wrote_within}
use Rattle.lines.specs.declared.read.Call.{Call}
use Rattle.lines.specs.declared.read.Call.TheVariants.{Arrive, Choose, Advance, Finish}
use Rattle.lines.specs.declared.read.Line.{Line}
use Rattle.lines.specs.declared.read.Line.TheVariants.{Row, Word, Call as CallLine, Empty, Unreadable}
use Rattle.lines.specs.Parted.{parted, parted_not_none}
use Rattle.lines.specs.Line.{bare_of, single_of_lem, triple_of, line_of}
use Rattle.lines.specs.Lines.{lines_of, lines_by, lines_cons}
use Rattle.lines.specs.Text.{field_text}

-- ---- definitions

-- a letter alone; a letter and a number
abbrev pub bare_text : ℕ → List ℕ
bare_text c = c ∷ 10 ∷ []

abbrev pub single_text : ℕ → ℕ → List ℕ
single_text c n = c ∷ 9 ∷ field_text n 10

abbrev pub call_text : Call → List ℕ
call_text (Arrive row) = single_text 65 row
call_text Choose = bare_text 71
call_text (Advance n) = single_text 82 n
call_text Finish = bare_text 70

abbrev pub row_text : ℕ → ℕ → ℕ → List ℕ
row_text c t d = (84 ∷ 9 ∷ []) ++ field_text c 9 ++ field_text t 9 ++ field_text d 10

-- a line with its newline. Of the lines that can't be read, `?` stands for all.
unfoldable pub input_line : Line → List ℕ
input_line (Row c t d) = row_text c t d
input_line (Word w) = single_text 87 w
input_line (CallLine c) = call_text c
input_line Empty = 10 ∷ []
input_line Unreadable = bare_text 63

unfoldable pub input_text : List Line → List ℕ
input_text [] = []
input_text (x ∷ l) = input_line x ++ input_text l

-- 32 bits hold its numbers
abbrev pub Narrow : Line → Type 0
Narrow (Row c t d) = (c ≤ 4294967295) × (t ≤ 4294967295) × (d ≤ 4294967295)
Narrow (Word w) = w ≤ 4294967295
Narrow (CallLine (Arrive row)) = row ≤ 4294967295
Narrow (CallLine Choose) = Unit
Narrow (CallLine (Advance n)) = n ≤ 4294967295
Narrow (CallLine Finish) = Unit
Narrow Empty = Unit
Narrow Unreadable = Unit

abbrev pub AllNarrow : List Line → Type 0
AllNarrow [] = Unit
AllNarrow (x ∷ l) = Narrow x × AllNarrow l

pub text_append : (l m : List Line) → input_text (l ++ m) ≡ input_text l ++ input_text m
unfolding input_text
text_append [] m = refl
text_append (x ∷ l) m = rw (text_append l m) (sym (append_assoc (input_line x) (input_text l) (input_text m)))

pub narrow_append : (l m : List Line) → AllNarrow l → AllNarrow m → AllNarrow (l ++ m)
narrow_append [] m a b = b
narrow_append (x ∷ l) m a b = (a.0, narrow_append l m a.1 b)

-- ---- bytes without a separator

unfoldable pub without : ℕ → List ℕ → Bool
without sep [] = true
without sep (b ∷ l) = not (eqb b sep) && without sep l

digits_without : (sep : ℕ) (l : List ℕ) → sep < 48 → all_digits l ≡ true → without sep l ≡ true
unfolding without all_digits
digits_without sep [] h e = refl
digits_without sep (b ∷ l) h e =
    let p = and-true (is_digit b) (all_digits l) e in
    let q = leb-true 48 b (and-true (leb 48 b) (leb b 57) p.0).0 in
    and_both (not (eqb b sep)) (without sep l) (ap not (ne_eqb b sep (λ z. omega arith))) (digits_without sep l h p.1)

-- no number has a tab or a newline in it
pub number_without : (sep n : ℕ) → sep < 48 → without sep (decimal n) ≡ true
number_without sep n h = digits_without sep (decimal n) h (decimal_digits n)

pub without_append : (sep : ℕ) (l r : List ℕ) → without sep l ≡ true → without sep r ≡ true → without sep (l ++ r) ≡ true
unfolding without
without_append sep [] r e f = f
without_append sep (b ∷ l) r e f =
    let p = and-true (not (eqb b sep)) (without sep l) e in
    and_both (not (eqb b sep)) (without sep (l ++ r)) p.0 (without_append sep l r p.1 f)

-- they are one part, up to the separator
pub parted_end : (sep : ℕ) (l r : List ℕ) → without sep l ≡ true → parted sep (l ++ sep ∷ r) ≡ l ∷ parted sep r
unfolding without parted
parted_end sep [] r e = simp (eq-eqb sep sep refl)
parted_end sep (b ∷ l) r e =
    let p = and-true (not (eqb b sep)) (without sep l) e in
    simp (not-true (eqb b sep) p.0, parted_end sep l r p.1)

-- or all
pub parted_last : (sep : ℕ) (l : List ℕ) → without sep l ≡ true → parted sep l ≡ l ∷ []
unfolding without parted
parted_last sep [] e = refl
parted_last sep (b ∷ l) e =
    let p = and-true (not (eqb b sep)) (without sep l) e in
    simp (not-true (eqb b sep) p.0, parted_last sep l p.1)

-- ---- a line reads back

-- the bytes before its newline
pub record Body (x : Line) : Type 0 where
  pub body : List ℕ
  pub text : input_line x ≡ body ++ 10 ∷ []
  pub one : without 10 body ≡ true
  pub back : line_of body ≡ x

body_bare : (c : ℕ) (x : Line) → input_line x ≡ bare_text c → without 10 (c ∷ []) ≡ true → line_of (c ∷ []) ≡ x → Body x
body_bare c x e o h = record { body = c ∷ []; text = e; one = o; back = h }

body_single : (c n : ℕ) (x : Line) → n ≤ 4294967295 → input_line x ≡ single_text c n → (eqb c 9 ≡ false) → (eqb c 10 ≡ false) → single_of_lem c n ≡ x → Body x
unfolding line_of parted without
body_single c n x h e a b s = record {
  body = c ∷ 9 ∷ decimal n;
  text = e;
  one = simp b (number_without 10 n (omega arith));
  back = simp a (rw (parted_last 9 (decimal n) (number_without 9 n (omega arith)), read_back n h) s);
}

body_row : (c t d : ℕ) → c ≤ 4294967295 → t ≤ 4294967295 → d ≤ 4294967295 → Body (Row c t d)
unfolding input_line line_of parted without triple_of
body_row c t d a b e = record {
  body = 84 ∷ 9 ∷ (decimal c ++ 9 ∷ (decimal t ++ 9 ∷ decimal d));
  text = simp append_assoc;
  one =
      without_append 10 (decimal c) _ (number_without 10 c (omega arith))
      (without_append 10 (decimal t) _ (number_without 10 t (omega arith)) (number_without 10 d (omega arith)));
  back =
      rw (
        parted_end 9 (decimal c) (decimal t ++ 9 ∷ decimal d) (number_without 9 c (omega arith)),
        parted_end 9 (decimal t) (decimal d) (number_without 9 t (omega arith)),
        parted_last 9 (decimal d) (number_without 9 d (omega arith)),
        read_back c a,
        read_back t b,
        read_back d e,
      );
}

body_of : (x : Line) → Narrow x → Body x
unfolding input_line line_of parted without bare_of single_of_lem
body_of (Row c t d) h = body_row c t d h.0 h.1 h.2
body_of (Word w) h = body_single 87 w (Word w) h refl refl refl refl
body_of (CallLine (Arrive row)) h = body_single 65 row (CallLine (Arrive row)) h refl refl refl refl
body_of (CallLine Choose) h = body_bare 71 (CallLine Choose) refl refl refl
body_of (CallLine (Advance n)) h = body_single 82 n (CallLine (Advance n)) h refl refl refl refl
body_of (CallLine Finish) h = body_bare 70 (CallLine Finish) refl refl refl
body_of Empty h = record { body = []; text = refl; one = refl; back = refl }
body_of Unreadable h = body_bare 63 Unreadable refl refl refl

-- THE LINES OF A TEXT ARE THOSE THAT IT WAS MADE FROM
pub lines_back : (l : List Line) → AllNarrow l → lines_of (input_text l) ≡ l
unfolding lines_of lines_by input_text parted
lines_back [] h = refl
lines_back (x ∷ l) h =
    let b = body_of x h.0 in
    let whole : input_text (x ∷ l) ≡ b.body ++ 10 ∷ input_text l =
    ap (λ (t : List ℕ). t ++ input_text l) b.text ∙ append_assoc b.body (10 ∷ []) (input_text l) in
    ap lines_of whole
    ∙ rw (parted_end 10 b.body (input_text l) b.one, lines_cons line_of Unreadable b.body (parted 10 (input_text l)) (parted_not_none 10 (input_text l)), b.back)
    (ap (λ (r : List Line). x ∷ r) (lines_back l h.1))

-- ---- its length

number_short : (n : ℕ) → n ≤ 4294967295 → length (decimal n) ≤ 10
number_short n h = decimal_short 9 n (omega arith)

line_short : (x : Line) → Narrow x → length (input_line x) ≤ 35
unfolding input_line
line_short (Row c t d) h = simp length-append (omega (arith, number_short c h.0, number_short t h.1, number_short d h.2))
line_short (Word w) h = simp length-append (omega (arith, number_short w h))
line_short (CallLine (Arrive row)) h = simp length-append (omega (arith, number_short row h))
line_short (CallLine Choose) h = omega arith
line_short (CallLine (Advance n)) h = simp length-append (omega (arith, number_short n h))
line_short (CallLine Finish) h = omega arith
line_short Empty h = omega arith
line_short Unreadable h = omega arith

pub text_short : (l : List Line) → AllNarrow l → length (input_text l) ≤ 35 * length l
unfolding input_text
text_short [] h = omega arith
text_short (x ∷ l) h = simp length-append (omega (arith, line_short x h.0, text_short l h.1))

-- ---- the code

module _ (d : List ℕ) (at : ℕ) where
  pub bare_written : (c : ℕ) (e f : List ℕ) (p q : ℕ) → at + 2 ≤ length d → Wrote 1 (c ∷ []) d e at p → Wrote 1 (10 ∷ []) e f p q
      → Wrote 2 (bare_text c) d f at q
  bare_written c e f p q h v w = wrote_more 1 1 (c ∷ []) (10 ∷ []) d e f at p q (omega arith) v w

  pub single_written : (c n : ℕ) (e f : List ℕ) (p q : ℕ) → at + 23 ≤ length d → Wrote 2 (c ∷ 9 ∷ []) d e at p → Wrote 21 (field_text n 10) e f p q
      → Wrote 23 (single_text c n) d f at q
  single_written c n e f p q h v w = wrote_more 2 21 (c ∷ 9 ∷ []) (field_text n 10) d e f at p q (omega arith) v w

  pub row_written : (c t k : ℕ) (e f g h : List ℕ) (p q r s : ℕ) → at + 65 ≤ length d → Wrote 2 (84 ∷ 9 ∷ []) d e at p → Wrote 21 (field_text c 9) e f p q
      → Wrote 21 (field_text t 9) f g q r → Wrote 21 (field_text k 10) g h r s → Wrote 65 (row_text c t k) d h at s
  row_written c t k e f g h p q r s l a b v w =
      let x = wrote_more 2 21 (84 ∷ 9 ∷ []) (field_text c 9) d e f at p q (omega arith) a b in
      let y = wrote_more 23 21 ((84 ∷ 9 ∷ []) ++ field_text c 9) (field_text t 9) d f g at q r (omega (arith, x.short)) x v in
      wrote_more 44 21 ((84 ∷ 9 ∷ []) ++ field_text c 9 ++ field_text t 9) (field_text k 10) d g h at r s (omega (arith, y.short)) y w

  -- the text of the variant that was met
  module _ (e : List ℕ) (q m : ℕ) where
    pub call_written : (c k : Call) → c ≡ k → Wrote m (call_text k) d e at q → m ≤ 23 → Wrote 23 (call_text c) d e at q
    call_written c k h w l = rw h (wrote_within m 23 (call_text k) d e at q l w)

    pub line_written : (x y : Line) → x ≡ y → Wrote m (input_line y) d e at q → m ≤ 65 → Wrote 65 (input_line x) d e at q
    line_written x y h w l = rw h (wrote_within m 65 (input_line y) d e at q l w)

pub ruleset piece_laws = (bare_written, single_written, row_written)
