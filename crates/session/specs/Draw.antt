-- Laws of a draw from words (docs/SPECIFICATION.md §5.4, Draw). Assumes nothing.
use Rattle.std.specs.Prelude.{ℕ, suc, ◌+◌, ◌-◌, ◌*◌, ◌/◌, ◌%◌, ◌≤◌, ◌<◌, ◌≡◌, true, false, List, [], ◌∷◌, length, drop}
use Rattle.std.proofs.Math.Logic.{dite}
use Rattle.std.proofs.Common.{arith, mod-lt, div-mul-le_self, div-add-mod', mul-le-mul_right, le-div_iff_mul-le, div-lt_iff_lt-mul, length-drop}
use Rattle.std.proofs.Math.Decide.{dec_lt}
use borrow.Author.Tests.{le-leb, lt-leb}
use Rattle.bounded.specs.Tests.{both}
use Rattle.session.specs.declared.Session.{Session}
use Rattle.session.specs.Order.{candidates}
use Rattle.session.specs.Choose.{word_end, draw_limit, passed_over, draw, draw_used, contested, room, unopposed, pick_of, pick_used, used_of}

-- ---- the limit

pub limit_le : (n : ℕ) → draw_limit n ≤ word_end
unfolding draw_limit
limit_le n = div-mul-le_self word_end n

pub limit_zero : (n : ℕ) → n ≡ 0 → draw_limit n ≡ 0
unfolding draw_limit
limit_zero n e = rw e

limit_some : (n w : ℕ) → w < draw_limit n → 1 ≤ n
limit_some n w h = dite (dec_lt 0 n) (λ p. p) (λ p. absurd (omega (arith, limit_zero n (omega arith))))

-- one remainder tells whether w is below: the n numbers from w - w mod n on end by 4,294,967,296,
pub taken_by : (n w : ℕ) → 1 ≤ n → w - w % n + n ≤ word_end → w < draw_limit n
unfolding draw_limit
taken_by n w l h =
    let a = w / n in
    let e = div-add-mod' w n in
    let m = mod-lt w {m = n} l in
    let k : suc a * n ≤ word_end = omega (arith, e) in
    omega (arith, e, mul-le-mul_right n ((le-div_iff_mul-le {k = n} {x = suc a} {y = word_end} l).1 k))

-- or they do not, and then even the first of them is not below
pub passed_by : (n w : ℕ) → 1 ≤ n → word_end < w - w % n + n → draw_limit n ≤ w - w % n
unfolding draw_limit
passed_by n w l h =
    let a = w / n in
    let e = div-add-mod' w n in
    let k : word_end < suc a * n = omega (arith, e) in
    omega (arith, e, mul-le-mul_right n ((div-lt_iff_lt-mul {k = n} {x = word_end} {y = suc a} l).1 k))

-- ---- the first word of a list

module _ (n w : ℕ) (l : List ℕ) where
  module _ (h : w < draw_limit n) where
    is_taken : passed_over n w ≡ false
    unfolding passed_over
    is_taken = lt-leb (draw_limit n) w h

    pub draw_taken : draw (w ∷ l) n ≡ w % n
    unfolding draw
    draw_taken = simp is_taken

    pub used_taken : draw_used (w ∷ l) n ≡ 1
    unfolding draw_used
    used_taken = simp is_taken

  module _ (h : draw_limit n ≤ w) where
    is_passed : passed_over n w ≡ true
    unfolding passed_over
    is_passed = le-leb (draw_limit n) w h

    pub draw_passed : draw (w ∷ l) n ≡ draw l n
    unfolding draw
    draw_passed = simp is_passed

    pub used_passed : draw_used (w ∷ l) n ≡ 1 + draw_used l n
    unfolding draw_used
    used_passed = simp is_passed

-- ---- one word: it draws a number below n where it is below the limit, and n otherwise

pub word_low : (n w : ℕ) → w < draw_limit n → draw (w ∷ []) n < n
word_low n w h = omega (arith, draw_taken n w [] h, mod-lt w {m = n} (limit_some n w h))

pub word_high : (n w : ℕ) → draw_limit n ≤ w → draw (w ∷ []) n ≡ n
unfolding draw
word_high n w h = draw_passed n w [] h

pub word_below : (n w : ℕ) → draw (w ∷ []) n < n → w < draw_limit n
word_below n w h = dite (dec_lt w (draw_limit n)) (λ l. l) (λ l. absurd (omega (arith, word_high n w (omega arith))))

pub word_above : (n w : ℕ) → n ≤ draw (w ∷ []) n → draw_limit n ≤ w
word_above n w h = dite (dec_lt w (draw_limit n)) (λ l. absurd (omega (arith, word_low n w l))) (λ l. omega arith)

-- ---- how many words are used

pub draw_within : (l : List ℕ) (n : ℕ) → draw_used l n ≤ length l
unfolding draw_used
draw_within [] n = omega arith
draw_within (w ∷ l) n =
    both (passed_over n w) (λ t. simp t (omega (arith, draw_within l n))) (λ f. simp f (omega arith))

-- a choice uses no more words than there are
pub pick_within : (s : Session) (l : List ℕ) → pick_used s l ≤ length l
unfolding pick_used
pick_within s l = both (contested s) (λ t. simp t (draw_within l (candidates s))) (λ f. simp f (omega arith))

pub used_within : (s : Session) (l : List ℕ) → used_of s l ≤ length l
unfolding used_of
used_within s l =
    let u = pick_used s l in
    let m = room s (pick_of s l) in
    both (unopposed s (pick_of s l)) (λ t. simp t (omega (arith, pick_within s l)))
    (λ f. simp f (omega (arith, pick_within s l, draw_within (drop u l) m, length-drop u l)))
