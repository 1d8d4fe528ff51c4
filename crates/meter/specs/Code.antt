-- What the code of the meter needs. Assumes nothing.
use Rattle.std.specs.Prelude.{ℕ, ◌+◌, ◌-◌, ◌*◌, ◌%◌, ◌≤◌, ◌<◌, ◌≡◌, refl, Bool, true, false, not, List, leb, eqb, length, get_or, set, replicate}
use Rattle.std.proofs.Common.{◌∙◌, Fits}
use Rattle.std.proofs.Math.Path.{ap}
use Rattle.std.proofs.Math.Nat.{mod-eq_of_lt}
use native.Mathlib.Omega.{arith}
use Rattle.std.proofs.Math.ListN.{length-replicate}
use Rattle.std.specs.Int.{w64, from_bool}
use Rattle.bounded.specs.Tests.{gate}
use Rattle.bounded.specs.Within.{Within}
use Rattle.bounded.specs.Sum.{sum_to, sum_start, sum_next, sum_done, sum_eq}
use Rattle.bounded.specs.Fold.{fold_to, put_length, put_at, put_past, put_start, put_next}
use Rattle.meter.specs.declared.Shape.{Shape}
use Rattle.meter.specs.Log.{eighths_of, Eighths, eighths_rule, eighths_is, eighths_mono, eighths_most}
use Rattle.meter.specs.Meter.{differ_by, row_in, differs, differing, alike, gap_at, stretch_of, meter_of}
use Rattle.meter.specs.Rule.{Shaped, ticks_few}
use Rattle.meter.specs.Alike.{differing_next, differing_most, alike_some, alike_few}

-- stretch k begins at place p
pub record Place (a : List ℕ) (h : Shape) (k p : ℕ) : Type 0 where
  pub is : p ≡ k * h.ticks
  pub room : p + h.ticks ≤ length a
  pub small : length a ≤ 16384
  pub window : h.window ≤ h.ticks

-- ---- `differ` and `near`

-- a test as a number
test_is : (b : Bool) (r : ℕ) → r ≡ from_bool b → Within 1 (gate b 1) r
unfolding gate
test_is true r e = record { is = e; small = omega arith }
test_is false r e = record { is = e; small = omega arith }

pub differ_is : (x y r : ℕ) → r ≡ from_bool (not (eqb x y)) → Within 1 (differ_by x y) r
unfolding differ_by
differ_is x y r e = test_is (not (eqb x y)) r e

pub near_is : (d w x r : ℕ) → w ≡ d → r ≡ from_bool (leb w x) → Within 1 (gate (leb d x) 1) r
near_is d w x r f e = test_is (leb d x) r (e ∙ rw f)

-- ---- `differing`

-- the term of tick x
abbrev pub apart_at : List ℕ → ℕ → ℕ → ℕ → ℕ
apart_at a p q x = differ_by (get_or a (p + x) 0) (get_or a (q + x) 0)

unfoldable pub apart : List ℕ → ℕ → ℕ → ℕ → ℕ
apart a p q n = sum_to (apart_at a p q) n

module _ (a : List ℕ) (p q : ℕ) where
  pub apart_next : (i s r : ℕ) → s ≡ sum_to (apart_at a p q) i → Within 1 (apart_at a p q i) r → s + r ≡ sum_to (apart_at a p q) (i + 1)
  apart_next i s r e w = sum_next (apart_at a p q) i s r e w.is

  pub apart_done : (i n r : ℕ) → r ≡ sum_to (apart_at a p q) i → r ≤ i → i ≤ n → n ≤ i → Within n (apart a p q n) r
  unfolding apart
  apart_done i n r e b l h = record { is = sum_done (apart_at a p q) i n n r e l h refl; small = omega arith }

pub ruleset apart_laws = (sum_start, apart_next, apart_done)

-- ---- the rows of a stretch

module _ (a : List ℕ) (h : Shape) (k p : ℕ) (w : Place a h k p) where
  pub row_at : (t : ℕ) → t < h.ticks → get_or a (p + t) 0 ≡ row_in a h k t
  unfolding row_in
  row_at t l = rw (w.is, mod-eq_of_lt l)

  pub row_around : (e t : ℕ) → e ≡ t % h.ticks → get_or a (p + e) 0 ≡ row_in a h k t
  unfolding row_in
  row_around e t q = rw (w.is, q)

-- the first interval needs no way around
pub apart_first : (a : List ℕ) (h : Shape) (k j p q : ℕ) → Place a h k p → Place a h j q → apart a p q h.window ≡ differing a h k j 0
unfolding apart differing differs
apart_first a h k j p q v w =
    sum_eq (apart_at a p q) (λ x. differs a h k j (0 + x)) h.window
    (λ x l.
    let e : 0 + x ≡ x = omega arith in
    rw (e, row_at a h k p v x (omega (arith, v.window)), row_at a h j q w x (omega (arith, v.window))))

-- ---- the counts: in how many ticks the intervals of stretch k and of each stretch j, from tick t on, differ

pub record Counts (a : List ℕ) (h : Shape) (k t : ℕ) (l : List ℕ) : Type 0 where
  pub places : length l ≡ 255
  pub each : (j : ℕ) → j < h.stretches → get_or l j 0 ≡ differing a h k j t

-- l with the first i of them put in
abbrev pub counts_to : List ℕ → Shape → ℕ → ℕ → List ℕ → ℕ → List ℕ
counts_to a h k t l i = fold_to (λ v j. set v j (differing a h k j t)) l i

module _ (a : List ℕ) (h : Shape) (k t : ℕ) (l : List ℕ) where
  pub counts_start : l ≡ counts_to a h k t l 0
  counts_start = put_start (λ j. differing a h k j t) l

  pub counts_next : (x : List ℕ) (i r : ℕ) → x ≡ counts_to a h k t l i → r ≡ differing a h k i t → set x i r ≡ counts_to a h k t l (i + 1)
  counts_next x i r e g = put_next (λ j. differing a h k j t) l x i r e g

  pub counts_done : (x : List ℕ) (i n : ℕ) → x ≡ counts_to a h k t l i → length l ≡ 255 → Shaped a h → i ≤ n → n ≤ i → n ≡ h.stretches → Counts a h k t x
  counts_done x i n e long f u v g = record {
    places = ap length e ∙ put_length (λ j. differing a h k j t) l i ∙ long;
    each = λ j o. ap (λ (y : List ℕ). get_or y j 0) e ∙ put_at (λ j. differing a h k j t) l i 0 (omega (arith, f.few)) j (omega arith);
  }

-- ---- `first_counts`

pub first_is : (a : List ℕ) (h : Shape) (k i m p q r : ℕ) → Place a h k p → Place a h i q → m ≡ h.window → Within m (apart a p q m) r → r ≡ differing a h k i 0
first_is a h k i m p q r v w e d = d.is ∙ ap (apart a p q) e ∙ apart_first a h k i p q v w

pub ruleset first_laws = (counts_start, first_is, counts_next, counts_done)

-- ---- `joining`

pub record Joins (h : Shape) (t r : ℕ) : Type 0 where
  pub is : r ≡ (t + h.window) % h.ticks
  pub below : r < h.ticks

-- ---- `moved`

pub record Moving (a : List ℕ) (p q t e d : ℕ) : Type 0 where
  pub first : p + t < length a
  pub other : q + t < length a
  pub next : p + e < length a
  pub after : q + e < length a
  pub few : length a ≤ 16384
  pub small : d ≤ 16384
  pub may : apart_at a p q t ≤ d + apart_at a p q e

pub record Moved (a : List ℕ) (p q t e d r : ℕ) : Type 0 where
  pub is : r + apart_at a p q t ≡ d + apart_at a p q e

-- ---- `like`

-- the term of stretch j
abbrev pub like_at : List ℕ → Shape → ℕ → ℕ → ℕ → ℕ
like_at a h k t j = gate (leb (differing a h k j t) h.threshold) 1

module _ (a : List ℕ) (h : Shape) (k t j d : ℕ) (is : d ≡ differing a h k j t) where
  pub like_is : (b r : ℕ) → b ≡ h.threshold → Within 1 (gate (leb d b) 1) r → Within 1 (like_at a h k t j) r
  like_is b r g w = rw (← is, ← g) w

  module _ (p q e : ℕ) (f : Shaped a h) (v : Place a h k p) (w : Place a h j q) (u : t < h.ticks) (x : Joins h t e) where
    gone_is : apart_at a p q t ≡ differs a h k j t
    unfolding differs
    gone_is = rw (row_at a h k p v t u, row_at a h j q w t u)

    come_is : apart_at a p q e ≡ differs a h k j (t + h.window)
    unfolding differs
    come_is = rw (row_around a h k p v e (t + h.window) x.is, row_around a h j q w e (t + h.window) x.is)

    pub may_move : Moving a p q t e d
    may_move = record {
      first = omega (arith, v.room);
      other = omega (arith, w.room);
      next = omega (arith, v.room, x.below);
      after = omega (arith, w.room, x.below);
      few = f.most;
      small = omega (arith, is, differing_most a h k j t, f.within, ticks_few a h f);
      may = omega (arith, is, gone_is, come_is, differing_next a h k j t);
    }

    pub like_next : (l : List ℕ) (r : ℕ) → Moved a p q t e d r → set l j r ≡ set l j (differing a h k j (t + 1))
    like_next l r y = ap (set l j) (omega (arith, y.is, is, gone_is, come_is, differing_next a h k j t))

pub ruleset like_laws = (like_is, may_move, like_next)

-- ---- `alike_at`

module _ (a : List ℕ) (h : Shape) (k t : ℕ) where
  pub alike_next : (i s r : ℕ) → s ≡ sum_to (like_at a h k t) i → Within 1 (like_at a h k t i) r → s + r ≡ sum_to (like_at a h k t) (i + 1)
  alike_next i s r e w = sum_next (like_at a h k t) i s r e w.is

  pub alike_done : (i n s : ℕ) → s ≡ sum_to (like_at a h k t) i → i ≤ n → n ≤ i → n ≡ h.stretches → s ≡ alike a h k t
  unfolding alike
  alike_done i n s e u v f = sum_done (like_at a h k t) i n h.stretches s e u v f

  module _ (l x : List ℕ) (i : ℕ) (e : x ≡ counts_to a h k (t + 1) l i) where
    -- the places from i on hold the counts of tick t still
    pub counts_left : Counts a h k t l → i < h.stretches → get_or x i 0 ≡ differing a h k i t
    counts_left c u = ap (λ (y : List ℕ). get_or y i 0) e ∙ put_past (λ j. differing a h k j (t + 1)) l i 0 i (omega arith) ∙ c.each i u

    pub counts_set : (y : List ℕ) → y ≡ set x i (differing a h k i (t + 1)) → y ≡ counts_to a h k (t + 1) l (i + 1)
    counts_set y g = g ∙ counts_next a h k (t + 1) l x i (differing a h k i (t + 1)) e refl

  pub counts_moved : (l x : List ℕ) (i n : ℕ) → Counts a h k t l → x ≡ counts_to a h k (t + 1) l i → Shaped a h → i ≤ n → n ≤ i → n ≡ h.stretches → Counts a h k (t + 1) x
  counts_moved l x i n c e f u v g = counts_done a h k (t + 1) l x i n e c.places f u v g

pub ruleset alike_laws = (sum_start, counts_start, counts_left, alike_next, counts_set, alike_done, counts_moved)

-- ---- `gaps_of`

-- g(n) - g(c) for c from 1 to i, in place c - 1
abbrev pub gaps_to : ℕ → ℕ → List ℕ
gaps_to n i = fold_to (λ v j. set v j (eighths_of n - eighths_of (j + 1))) (replicate 255 0) i

unfoldable pub gaps_of_lem : ℕ → List ℕ
gaps_of_lem n = gaps_to n n

module _ (n : ℕ) where
  pub gaps_start : replicate 255 0 ≡ gaps_to n 0
  gaps_start = put_start (λ j. eighths_of n - eighths_of (j + 1)) (replicate 255 0)

  module _ (x i y : ℕ) (some : 1 ≤ n) (few : n ≤ 255) (below : i < n) (p : Eighths n x) (q : Eighths (i + 1) y) where
    top : x ≡ eighths_of n
    top = eighths_is n x some few p

    own : y ≡ eighths_of (i + 1)
    own = eighths_is (i + 1) y (omega arith) (omega arith) q

    pub gaps_may : y ≤ x
    gaps_may = omega (arith, top, own, eighths_mono (i + 1) n (omega arith) (omega arith) few)

    pub gaps_next : (l : List ℕ) → l ≡ gaps_to n i → set l i (x - y) ≡ gaps_to n (i + 1)
    gaps_next l e = put_next (λ j. eighths_of n - eighths_of (j + 1)) (replicate 255 0) l i (x - y) e (rw (top, own))

  pub gaps_done : (l : List ℕ) (i : ℕ) → l ≡ gaps_to n i → i ≤ n → n ≤ i → l ≡ gaps_of_lem n
  unfolding gaps_of_lem
  gaps_done l i e u v = let z : i ≡ n = omega arith in e ∙ ap (gaps_to n) z

pub ruleset gaps_laws = (gaps_start, gaps_may, gaps_next, gaps_done)

-- ---- `gap`

module _ (a : List ℕ) (h : Shape) (f : Shaped a h) (k t c : ℕ) (l : k < h.stretches) (e : c ≡ alike a h k t) where
  pub alike_low : 1 ≤ c
  alike_low = omega (arith, alike_some a h k t l)

  pub alike_high : c ≤ 255
  alike_high = omega (arith, alike_few a h k t, f.few)

  -- the entry of c
  entry_is : get_or (gaps_of_lem h.stretches) (c - 1) 0 ≡ gap_at a h k t
  unfolding gaps_of_lem gap_at
  entry_is =
      let z : c - 1 + 1 ≡ c = omega (arith, alike_low) in
      put_at (λ j. eighths_of h.stretches - eighths_of (j + 1)) (replicate 255 0) h.stretches 0
      (omega (arith, f.few, length-replicate {A = ℕ} 255 0)) (c - 1) (omega (arith, alike_low, alike_few a h k t))
      ∙ rw (z, e)

  pub gap_is : (g : List ℕ) (r : ℕ) → g ≡ gaps_of_lem h.stretches → r ≡ get_or g (c - 1) 0 → Within 63 (gap_at a h k t) r
  unfolding gap_at
  gap_is g r w q =
      let m = eighths_most h.stretches (eighths_of h.stretches) f.few (eighths_rule h.stretches f.some f.few) in
      let z : r ≡ gap_at a h k t = q ∙ rw w entry_is in
      record { is = z; small = omega (arith, z) }

pub ruleset gap_laws = (alike_low, alike_high, gap_is)

-- ---- `stretch`

-- where the loop stands: the sum so far, and the counts of tick t
pub record Summing (a : List ℕ) (h : Shape) (k t s : ℕ) (l : List ℕ) : Type 0 where
  pub within : t ≤ h.ticks
  pub sum : s ≡ sum_to (gap_at a h k) t
  pub small : s ≤ 63 * t
  pub counts : Counts a h k t l

module _ (a : List ℕ) (h : Shape) (k : ℕ) where
  pub summing_start : (l : List ℕ) → Counts a h k 0 l → Summing a h k 0 0 l
  summing_start l c = record { within = omega arith; sum = sum_start (gap_at a h k); small = omega arith; counts = c }

  module _ (t s : ℕ) (l : List ℕ) (x : Summing a h k t s l) where
    pub summing_counts : Counts a h k t l
    summing_counts = x.counts

    summing_most : Shaped a h → s ≤ 1032192
    summing_most f = omega (arith, x.small, x.within, ticks_few a h f)

    pub summing_fits : (r : ℕ) → Shaped a h → Within 63 (gap_at a h k t) r → Fits w64 (s + r)
    summing_fits r f w = record { fits = omega (arith, summing_most f, w.small) }

    pub summing_next : (z r : ℕ) (m : List ℕ) → t < z → z ≡ h.ticks → Within 63 (gap_at a h k t) r → Counts a h k (t + 1) m → Summing a h k (t + 1) (s + r) m
    summing_next z r m u g w d = record {
      within = omega arith;
      sum = sum_next (gap_at a h k) t s r x.sum w.is;
      small = omega (arith, x.small, w.small);
      counts = d;
    }

    pub summing_done : (z : ℕ) → Shaped a h → z ≤ t → z ≡ h.ticks → Within 1032192 (stretch_of a h k) s
    unfolding stretch_of
    summing_done z f u g =
        let e : t ≡ h.ticks = omega (arith, x.within) in
        record { is = x.sum ∙ ap (sum_to (gap_at a h k)) e; small = summing_most f }

pub ruleset summing_laws = (summing_start, summing_counts, summing_fits, summing_next, summing_done)

-- ---- `total`

pub total_done : (a : List ℕ) (h : Shape) (i n s : ℕ) → s ≡ sum_to (stretch_of a h) i → i ≤ n → n ≤ i → n ≡ h.stretches → s ≡ meter_of a h
unfolding meter_of
total_done a h i n s e l u f = sum_done (stretch_of a h) i n h.stretches s e l u f

pub gaps_for : (h : Shape) (n : ℕ) (l : List ℕ) → n ≡ h.stretches → l ≡ gaps_of_lem n → l ≡ gaps_of_lem h.stretches
gaps_for h n l e g = g ∙ ap gaps_of_lem e

pub ruleset total_laws = (sum_start, gaps_for, sum_next, total_done)
