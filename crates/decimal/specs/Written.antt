-- A number written into a lent buffer: what the code of `src/write.rt` needs. Assumes nothing.
use Rattle.std.specs.Prelude.{ℕ, suc, ◌+◌, ◌-◌, ◌*◌, ◌/◌, ◌%◌, ◌^◌, ◌≤◌, ◌<◌, ◌≡◌, refl, List, [], ◌∷◌, ◌++◌, length, get_or, take, drop, set}
use Rattle.std.proofs.Common.{pow-suc, sym, ap, ◌∙◌, append_assoc, append-nil, add-one, arith, length-append, length-set, take-suc, length-take-le}
use Rattle.std.proofs.Math.Seq.{set-append_seam}
use Rattle.decimal.specs.Decimal.{decimal, glyph, decimal_small, decimal_large, decimal_some, decimal_long, decimal_short, decimal_twenty}
use Rattle.decimal.specs.Buffer.{overlay, overlay_none, Wrote, wrote_length, wrote_more, wrote_within}

-- ---- `digits_in`

-- the power of ten that n reaches says how many digits it has
pub count_some : (n k : ℕ) → 10 ^ k ≤ n → n < 10 * 10 ^ k → k + 1 ≡ length (decimal n)
count_some n k l h = omega (arith, decimal_long k n l, decimal_short k n (rw (add-one, pow-suc) (omega arith)))

pub count_none : (n : ℕ) → n ≡ 0 → 1 ≡ length (decimal n)
count_none n h = let e : n < 10 = omega arith in sym (ap length (decimal_small n e))

pub ruleset count_cases = (count_some, count_none)

-- ---- `put_digits`

-- a byte in front of a text that stands in the buffer
overlay_front : (d t : List ℕ) (i b : ℕ) → i < length d → set (overlay d (i + 1) t) i b ≡ overlay d i (b ∷ t)
unfolding overlay
overlay_front d t i b h =
    let front : length (take i d) ≡ i = length-take-le i d (omega arith) in
    let rest = t ++ drop (i + 1 + length t) d in
    let one : take (i + 1) d ≡ take i d ++ get_or d i 0 ∷ [] = rw (add-one i) (take-suc d i 0 h) in
    let same : i + 1 + length t ≡ i + suc (length t) = omega arith in
    rw (one)
    (simp append_assoc
    (ap (λ (x : ℕ). set (take i d ++ get_or d i 0 ∷ (t ++ drop (i + 1 + length t) d)) x b) (sym front)
    ∙ set-append_seam (take i d) (get_or d i 0) rest b
    ∙ ap (λ (x : ℕ). take i d ++ b ∷ (t ++ drop x d)) same))

-- the digits of n but those of `rest`, the first of n's, stand from place i on
pub record Filling (n : ℕ) (d : List ℕ) (at : ℕ) (e : List ℕ) (rest i : ℕ) : Type 0 where
  pub room : at + length (decimal n) ≤ length d
  pub place : i ≡ at + length (decimal rest)
  pub within : i ≤ at + length (decimal n)
  pub text : List ℕ
  pub all : decimal n ≡ decimal rest ++ text
  pub buffer : e ≡ overlay d i text
  pub same : length e ≡ length d

module _ (n : ℕ) (d : List ℕ) (at : ℕ) where
  pub filling_start : (k : ℕ) → k ≡ length (decimal n) → at + length (decimal n) ≤ length d → Filling n d at d n (at + k)
  filling_start k c r = record {
    room = r;
    place = omega arith;
    within = omega arith;
    text = [];
    all = sym (append-nil (decimal n));
    buffer = sym (overlay_none d (at + k));
    same = refl;
  }

  module _ (e : List ℕ) (rest i : ℕ) (f : Filling n d at e rest i) where
    pub filling_some : 1 ≤ i
    filling_some = omega (arith, f.place, decimal_some rest)

    pub filling_room : 10 ≤ rest → i - 1 < length e
    filling_room h = omega (arith, f.place, f.within, f.room, f.same, decimal_some rest)

    pub filling_next : 10 ≤ rest → Filling n d at (set e (i - 1) (glyph (rest % 10))) (rest / 10) (i - 1)
    filling_next h =
        let s = ap length (decimal_large rest h) ∙ length-append (decimal (rest / 10)) (glyph (rest % 10) ∷ []) in
        let j : i - 1 + 1 ≡ i = omega (arith, filling_some) in
        record {
          room = f.room;
          place = omega (arith, f.place);
          within = omega (arith, f.within);
          text = glyph (rest % 10) ∷ f.text;
          all = f.all ∙ ap (λ (x : List ℕ). x ++ f.text) (decimal_large rest h) ∙ append_assoc (decimal (rest / 10)) (glyph (rest % 10) ∷ []) f.text;
          buffer =
              ap (λ (x : List ℕ). set x (i - 1) (glyph (rest % 10))) (f.buffer ∙ ap (λ (x : ℕ). overlay d x f.text) (sym j))
              ∙ overlay_front d f.text (i - 1) (glyph (rest % 10)) (omega (arith, filling_room h, f.same));
          same = length-set e (i - 1) (glyph (rest % 10)) ∙ f.same;
        }

    pub filling_first : at < length e
    filling_first = omega (arith, f.room, f.same, decimal_some n)

    pub filling_done : (p : ℕ) → rest < 10 → p ≡ at + length (decimal n) → Wrote (length (decimal n)) (decimal n) d (set e at (glyph rest)) at p
    filling_done p h q =
        let one : i ≡ at + 1 = omega (arith, f.place, ap length (decimal_small rest h)) in
        record {
          buffer =
              ap (λ (x : List ℕ). set x at (glyph rest)) (f.buffer ∙ ap (λ (x : ℕ). overlay d x f.text) one)
              ∙ overlay_front d f.text at (glyph rest) (omega (arith, filling_first, f.same))
              ∙ ap (overlay d at) (sym (f.all ∙ ap (λ (x : List ℕ). x ++ f.text) (decimal_small rest h)));
          place = q;
          short = omega arith;
        }

pub ruleset filling_laws = (filling_start, filling_some, filling_room, filling_next, filling_first, filling_done)

-- ---- `put_number`

pub room_number : (n at : ℕ) (d : List ℕ) → n < 2 ^ 64 → at + 21 ≤ length d → at + length (decimal n) ≤ length d
room_number n at d b r = omega (arith, decimal_twenty n b)

pub room_end : (n at p : ℕ) (d e : List ℕ) → n < 2 ^ 64 → at + 21 ≤ length d → Wrote (length (decimal n)) (decimal n) d e at p → p < length e
room_end n at p d e b r w =
    let s = decimal_twenty n b in
    omega (arith, wrote_length _ (decimal n) d e at p (omega arith) w)

pub number_ended : (n last at p q : ℕ) (d e f : List ℕ) → n < 2 ^ 64 → at + 21 ≤ length d → Wrote (length (decimal n)) (decimal n) d e at p
    → Wrote 1 (last ∷ []) e f p q → Wrote 21 (decimal n ++ last ∷ []) d f at q
number_ended n last at p q d e f b r v w =
    let s = decimal_twenty n b in
    wrote_within _ 21 (decimal n ++ last ∷ []) d f at q (omega arith)
    (wrote_more _ 1 (decimal n) (last ∷ []) d e f at p q (omega arith) v w)

pub ruleset written_cases = (room_number, room_end, number_ended)
