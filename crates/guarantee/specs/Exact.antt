-- Which candidate each number of a draw names, how long the chosen one may run, that no word is divided by 0, and that no span is 0
-- (docs/SPECIFICATION.md §5.4). Assumes nothing.
use Rattle.std.specs.Prelude.{ℕ, ◌≤◌, ◌<◌, ◌≡◌, refl, false, ◌&&◌, List, ltb}
use Rattle.std.proofs.Common.{sym, ◌∙◌, true≢false, ⊎_elim, arith}
use Rattle.std.proofs.Math.Bool.{true, not}
use Rattle.std.proofs.Math.Logic.{dite}
use Rattle.std.proofs.Math.Decide.{dec_lt}
use borrow.Author.Tests.{ltb-true, leb-true, lt-ltb, le-ltb, eq-eqb, ne_eqb}
use Rattle.bounded.specs.Tests.{both, and-true, gate, gate_on, gate_off, gate_le}
use Rattle.bounded.specs.Sum.{sum_zero}
use Rattle.bounded.specs.Counted.{gate_some}
use Rattle.bounded.specs.All.{all_at}
use Rattle.table.specs.Rows.{horizon}
use Rattle.session.specs.declared.Session.{Session}
use Rattle.session.specs.Reading.{idle, job_at, tasks, waits}
use Rattle.session.specs.Order.{before, is_head, head_of, candidate, idles, candidates, position, row_with, candidate_at}
use Rattle.session.specs.Ranked.{rank_lower, rank_below, rank_apart, rank_with, rank_found, rank_none}
use Rattle.session.specs.First.{is_head_lem, head_waits}
use Rattle.session.specs.Choose.{draw, contested, drawn, pick_of, pick_used, room, length_drawn, span_of}
use Rattle.session.specs.Facts.{Facts, facts_deadline}
use Rattle.guarantee.specs.Draws.{candidate_rows, Numbered, row, last, Numbering, Drawn, Divisors}
use Rattle.guarantee.specs.KeepsTable.{most_le}
use Rattle.guarantee.specs.KeepsChoice.{ahead_waits, idle_ahead}
use Rattle.guarantee.specs.KeepsPick.{pick_may}
use Rattle.guarantee.specs.Room.{Lesser, room_lesser, may_room}

-- ---- the statements: how long the chosen one may run

-- a job's room is the lesser of its remaining ticks and the least budget of the waiting jobs of strictly earlier deadline
-- (§5.4, Span)
abbrev pub RowRoom : Session → ℕ → Type 0
RowRoom s c = Lesser s c (job_at s c).left s.count (room s c)

-- idle's room is the least budget of the waiting jobs: the 1,000,000 that `room` begins with is above each (§5.4, Span)
pub record IdleRoom (s : Session) : Type 0 where
  pub small : (i : ℕ) → i < s.count → waits s i ≡ true → (job_at s i).budget < horizon
  pub each : (i : ℕ) → i < s.count → waits s i ≡ true → room s idle ≤ (job_at s i).budget
  pub one : (i : ℕ) × (i < s.count) × (waits s i ≡ true) × (room s idle ≡ (job_at s i).budget)

module _ (s : Session) where
  -- ---- the numbers: a candidate's rank among the candidates

  candidate_lower : (i j : ℕ) → i < s.count → candidate s i ≡ true → before s i j ≡ true → position s i < position s j
  unfolding position
  candidate_lower = rank_lower s (candidate s)

  candidate_below : (i : ℕ) → i < s.count → candidate s i ≡ true → position s i < candidate_rows s
  unfolding position
  candidate_below = rank_below s (candidate s)

  candidate_apart : (i j : ℕ) → i < s.count → j < s.count → candidate s i ≡ true → candidate s j ≡ true
      → position s i ≡ position s j → i ≡ j
  unfolding position
  candidate_apart = rank_apart s (candidate s)

  -- the row found is a candidate, and has the number
  row_with_lem : (k : ℕ) → row_with s k < s.count → (candidate s (row_with s k) ≡ true) × (position s (row_with s k) ≡ k)
  unfolding row_with position
  row_with_lem = rank_with s (candidate s)

  row_found : (k : ℕ) → k < candidate_rows s → row_with s k < s.count
  unfolding row_with position
  row_found = rank_found s (candidate s)

  row_none : (k : ℕ) → candidate_rows s ≤ k → row_with s k ≡ s.count
  unfolding row_with position
  row_none = rank_none s (candidate s)

  -- a row where k is below how many they are; otherwise k is just that, and idle is a candidate
  candidate_each : (k : ℕ) → k < candidates s → Numbered s k (candidate_at s k)
  unfolding candidates candidate_at
  candidate_each k h =
      dite (dec_lt k (candidate_rows s))
      (λ l.
      let r = row_found k l in
      let w = row_with_lem k r in
      simp (lt-ltb (row_with s k) s.count r) (row (row_with s k) r w.0 w.1))
      (λ l.
      let p : idles s ≡ true = gate_some (idles s) (omega arith) in
      simp (le-ltb (row_with s k) s.count (omega (arith, row_none k (omega arith))), p)
      (last p (omega (arith, gate_le (idles s) 1))))

  candidate_most : {k c : ℕ} → Numbered s k c → k < candidates s
  unfolding candidates
  candidate_most (row r l c p) = omega (arith, candidate_below r l c)
  candidate_most (last p e) = omega (arith, gate_on (idles s) 1 p)

  candidate_one : {k c d : ℕ} → Numbered s k c → Numbered s k d → c ≡ d
  candidate_one (row i u a p) (row j v b q) = candidate_apart i j u v a b (p ∙ sym q)
  candidate_one (row i u a p) (last b e) = absurd (omega (arith, candidate_below i u a))
  candidate_one (last b e) (row i u a p) = absurd (omega (arith, candidate_below i u a))
  candidate_one (last a e) (last b f) = refl

  -- every candidate waits, so none is before the head
  before_head : head_of s < s.count → (j : ℕ) → j < s.count → (candidate s j && before s j (head_of s)) ≡ false
  unfolding is_head candidate
  before_head h j u =
      let a = (and-true (waits s (head_of s)) _ (is_head_lem s h)).1 in
      let b : not (waits s j && before s j (head_of s)) ≡ true = all_at (λ j. not (waits s j && before s j (head_of s))) s.count a j u in
      both (candidate s j && before s j (head_of s))
      (λ e.
      let c = and-true (candidate s j) _ e in
      let w = (and-true (waits s j) _ c.0).0 in
      absurd (true≢false (sym b ∙ simp (w, c.1))))
      (λ e. e)

  candidate_head : head_of s < s.count → Numbered s 0 (head_of s)
  unfolding candidate position
  candidate_head h =
      row (head_of s) h (simp (head_waits s h, eq-eqb (head_of s) (head_of s) refl))
      (sum_zero (λ j. gate (candidate s j && before s j (head_of s)) 1) s.count (λ j u. gate_off _ 1 (before_head h j u)))

pub numbering : (s : Session) → Numbering s
numbering s = record {
  ordered = candidate_lower s;
  below = candidate_below s;
  apart = candidate_apart s;
  found = row_found s;
  none = row_none s;
  each = candidate_each s;
  most = candidate_most s;
  one = candidate_one s;
  head = candidate_head s;
}

-- ---- the draw

contested_two : (s : Session) → contested s ≡ true → 2 ≤ candidates s
unfolding contested
contested_two s e = leb-true 2 (candidates s) (and-true (ltb (head_of s) s.count) _ e).1

pub drawn_number : (s : Session) (l : List ℕ) → Drawn s l
unfolding pick_of drawn
drawn_number s l e =
    simp e
    ((numbering s).each (draw l (candidates s))
    (ltb-true (draw l (candidates s)) (candidates s) (and-true (contested s) _ e).1))

-- ---- how long c may run

pub row_room : (s : Session) (c : ℕ) → ¬ (c ≡ idle) → RowRoom s c
row_room s c ne = simp (ne_eqb c idle ne) at (room_lesser s c)

-- ---- a waiting job's budget is below 1,000,000

waiting_small : (s : Session) → Facts s → (i : ℕ) → i < s.count → waits s i ≡ true → (job_at s i).budget < horizon
waiting_small s f i l w =
    omega (arith, f.job i l w, most_le (tasks s) i, facts_deadline s f i)

pub idle_room : (s : Session) → Facts s → (j : ℕ) → j < s.count → waits s j ≡ true → IdleRoom s
idle_room s f j l w =
    let r = room_lesser s idle in
    let le = r.each j l (idle_ahead s idle j refl w) in
    record {
      small = waiting_small s f;
      each = λ i u v. r.each i u (idle_ahead s idle i refl v);
      one = ⊎_elim (λ e. absurd (omega (arith, waiting_small s f j l w)))
          (λ t. (t.0, t.1, ahead_waits s idle t.0 t.2, t.3)) r.one;
    }

-- ---- no word is divided by 0

pub divisors : (s : Session) → Facts s → (l : List ℕ) → Divisors s l
divisors s f l =
    record { pick = contested_two s; span = may_room s f.few (pick_of s l) (pick_may s f.few l) }

-- ---- a span is at least 1, so that a choice is in force after it

pub span_some : (s : Session) → Facts s → (l : List ℕ) → 1 ≤ span_of s l (pick_used s l) (pick_of s l)
unfolding span_of
span_some s f l =
    both (length_drawn s l (pick_used s l) (pick_of s l)) (λ e. simp e (omega arith)) (λ e. simp e (divisors s f l).span)
