-- The code of the search, case by case. Assumes nothing.
use Prim.Native.Nat.{ℕ, zero, suc, ◌+◌, ◌-◌, ◌≤◌, ◌<◌}
use Rattle.std.specs.Prelude.{◌≡◌, refl, Bool, true, false, not, ◌&&◌, ◌||◌, leb, ltb, set}
use Rattle.std.proofs.Math.Path.{sym}
use Rattle.std.proofs.Common.{ap, ◌∙◌, le-leb, lt-ltb, le-ltb}
use Rattle.std.proofs.Math.Bool.{and-true, or-true}
use native.Mathlib.Omega.{arith}
use Rattle.std.proofs.lemmas.Bool.{lt-leb}
use Rattle.bounded.specs.All.{all_to}
use Rattle.bounded.proofs.AllLaws.{all_fails}
use Rattle.edf.specs.Demand.{TaskSet}
use Rattle.table.specs.declared.rows.Task.{Task}
use Rattle.table.specs.Rows.{FitRow}
use Rattle.gametree.specs.declared.board.Board.{Board}
use Rattle.gametree.specs.Search.{slot_at, released_of, played_of, may_of, late_by, missed_of, some_of, lost_by, forced_of}

-- what is forced where rows below k are still to decide
unfoldable pub round_of : TaskSet → ℕ → ℕ → Board → Bool
round_of τ zero k p = false
round_of τ (suc t) k p = some_of τ (λ q. all_to (lost_by (λ r. forced_of τ t r) q) 4) k p

pub forced_round : (τ : TaskSet) (t : ℕ) (p : Board) → forced_of τ t p ≡ round_of τ t τ.rows p
unfolding forced_of round_of
forced_round τ zero p = refl
forced_round τ (suc t) p = refl

-- ---- small steps

-- a release
pub released_is : (τ : TaskSet) (p : Board) (i : ℕ) (k : Task) → FitRow τ i k
    → record { clock = p.clock; slots = set p.slots i (record { next = p.clock + k.period; due = p.clock + k.deadline; left = k.run }) } ≡ released_of τ p i
unfolding released_of
released_is τ p i k f = let r = f.row in rw (r.period, r.deadline, r.run)

-- a tick
pub played_row : (p : Board) (m x : ℕ) → m < 3 → x ≡ (slot_at p m).left - 1
    → record { clock = p.clock + 1; slots = set p.slots m (record { next = (slot_at p m).next; due = (slot_at p m).due; left = x }) } ≡ played_of p m
unfolding played_of
played_row p m x l e = rw e (sym (simp (lt-ltb m 3 l)))

pub played_none : (p : Board) (m : ℕ) → 3 ≤ m → record { clock = p.clock + 1; slots = p.slots } ≡ played_of p m
unfolding played_of
played_none p m l = sym (simp (le-ltb m 3 l))

pub ruleset played_cases = (played_row, played_none)

pub may_row : (p : Board) (m : ℕ) → m < 3 → ltb 0 (slot_at p m).left ≡ may_of p m
unfolding may_of
may_row p m l = sym (simp (lt-ltb m 3 l))

pub may_none : (p : Board) (m : ℕ) → 3 ≤ m → true ≡ may_of p m
unfolding may_of
may_none p m l = sym (simp (le-ltb m 3 l))

pub ruleset may_cases = (may_row, may_none)

-- ---- a job unfinished at its deadline, slot by slot

abbrev lates : Board → ℕ → Bool
lates p i = late_by (slot_at p i) p.clock

-- none of the first i slots has one
pub record InTime (p : Board) (i : ℕ) : Type 0 where
  pub none : all_to (λ i. not (lates p i)) i ≡ true

module _ (p : Board) where
  missed_is : missed_of p ≡ not (all_to (λ i. not (lates p i)) 3)
  unfolding missed_of
  missed_is = refl

  pub in_time_start : InTime p 0
  unfolding all_to
  in_time_start = record { none = refl }

  module _ (i : ℕ) (a : Bool) (e : a ≡ lates p i) where
    pub in_time_next : InTime p i → a ≡ false → InTime p (i + 1)
    unfolding all_to
    in_time_next h f = let k : i + 1 ≡ suc i = omega arith in record { none = rw k (simp (h.none, sym e ∙ f)) }

    pub missed_some : i < 3 → a ≡ true → true ≡ missed_of p
    missed_some l t =
        sym (missed_is ∙ ap not (sym (all_fails (λ i. not (lates p i)) i 3 3 _ l refl refl (simp (sym e ∙ t)))))

  pub missed_none : (i : ℕ) → InTime p i → i ≡ 3 → false ≡ missed_of p
  missed_none i h k = let t : all_to (λ i. not (lates p i)) 3 ≡ true = rw k at h.none in sym (missed_is ∙ ap not t)

pub ruleset missed_cases = (in_time_start, in_time_next, missed_some, missed_none)

-- ---- each move

-- what a move leads to
abbrev pub loss_of : TaskSet → ℕ → Board → ℕ → Bool
loss_of τ t p m = missed_of (played_of p m) || forced_of τ t (played_of p m)

pub loss_missed : (τ : TaskSet) (t : ℕ) (p q : Board) (m : ℕ) (b : Bool) → q ≡ played_of p m → b ≡ missed_of q → b ≡ true → true ≡ loss_of τ t p m
loss_missed τ t p q m b e f h = sym (simp (ap missed_of (sym e) ∙ sym f ∙ h))

pub loss_forced : (τ : TaskSet) (t : ℕ) (p q : Board) (m n : ℕ) (b c : Bool) → q ≡ played_of p m → b ≡ missed_of q → b ≡ false → n ≡ τ.rows
    → c ≡ round_of τ t n q → c ≡ loss_of τ t p m
loss_forced τ t p q m n b c e f h k g =
    g ∙ ap (λ (z : ℕ). round_of τ t z q) k ∙ sym (forced_round τ t q) ∙ ap (forced_of τ t) e ∙ sym (simp (ap missed_of (sym e) ∙ sym f ∙ h))

pub ruleset loss_cases = (loss_missed, loss_forced)

abbrev pub lost_of : TaskSet → ℕ → Board → ℕ → Bool
lost_of τ t p = lost_by (λ r. forced_of τ t r) p

module _ (τ : TaskSet) (t : ℕ) (p : Board) where
  pub loses : (m : ℕ) (b : Bool) → b ≡ loss_of τ t p m → b ≡ true → lost_of τ t p m ≡ true
  loses m b e h = simp (sym e ∙ h, or-true)

  keeps : (m : ℕ) (a b : Bool) → a ≡ may_of p m → a ≡ true → b ≡ loss_of τ t p m → b ≡ false → lost_of τ t p m ≡ false
  keeps m a b q r e h = simp (sym q ∙ r) (sym e ∙ h)

  pub each_none : (m : ℕ) → m ≡ 0 → true ≡ all_to (lost_of τ t p) m
  unfolding all_to
  each_none m e = rw e

  module _ (m : ℕ) (some : m ≡ 0 → ⊥) where
    -- the last of these moves loses, so the others decide
    rest : lost_of τ t p (m - 1) ≡ true → (b : Bool) → b ≡ all_to (lost_of τ t p) (m - 1) → b ≡ all_to (lost_of τ t p) m
    unfolding all_to
    rest h b g =
        let e : m ≡ suc (m - 1) = omega arith in
        g ∙ sym (ap (all_to (lost_of τ t p)) e ∙ simp (h, and-true))

    -- it is the one that was tried first
    pub each_known : (h : ℕ) (b : Bool) → m - 1 ≡ h → lost_of τ t p h ≡ true → b ≡ all_to (lost_of τ t p) (m - 1) → b ≡ all_to (lost_of τ t p) m
    each_known h b e k g = rest (ap (lost_of τ t p) e ∙ k) b g

    -- it is no move
    pub each_off : (a b : Bool) → a ≡ may_of p (m - 1) → a ≡ false → b ≡ all_to (lost_of τ t p) (m - 1) → b ≡ all_to (lost_of τ t p) m
    each_off a b q r g = rest (simp (sym q ∙ r)) b g

    pub each_loses : (c b : Bool) → c ≡ loss_of τ t p (m - 1) → c ≡ true → b ≡ all_to (lost_of τ t p) (m - 1) → b ≡ all_to (lost_of τ t p) m
    each_loses c b q r g = rest (loses (m - 1) c q r) b g

    pub each_keeps : (a c : Bool) → a ≡ may_of p (m - 1) → a ≡ true → c ≡ loss_of τ t p (m - 1) → c ≡ false → false ≡ all_to (lost_of τ t p) m
    each_keeps a c q r e h = all_fails (lost_of τ t p) (m - 1) m m _ (omega arith) refl refl (keeps (m - 1) a c q r e h)

pub ruleset each_cases = (each_none, each_known, each_off, each_loses, each_keeps)

-- ---- a round

module _ (τ : TaskSet) (ticks : ℕ) (p : Board) where
  pub round_over : (k : ℕ) → ticks ≡ 0 → false ≡ round_of τ ticks k p
  unfolding round_of
  round_over k e = rw e

  module _ (some : ticks ≡ 0 → ⊥) where
    turn : (k : ℕ) → round_of τ ticks k p ≡ some_of τ (λ q. all_to (lost_of τ (ticks - 1) q) 4) k p
    unfolding round_of
    turn k = let e : ticks ≡ suc (ticks - 1) = omega arith in rw e (rest (ticks - 1))
      where
        rest : (t : ℕ) → some_of τ (λ q. all_to (lost_by (λ r. forced_of τ t r) q) 4) k p ≡ some_of τ (λ q. all_to (lost_of τ (suc t - 1) q) 4) k p
        rest t = let e : suc t - 1 ≡ t = omega arith in rw e

    -- all rows are decided: each of the scheduler's moves
    decided : (k : ℕ) → k ≡ 0 → round_of τ ticks k p ≡ all_to (lost_of τ (ticks - 1) p) 4
    unfolding some_of
    decided k e = turn k ∙ rw e

    pub round_each : (k : ℕ) (b : Bool) → k ≡ 0 → b ≡ all_to (lost_of τ (ticks - 1) p) 4 → b ≡ round_of τ ticks k p
    round_each k b e g = g ∙ sym (decided k e)

    pub round_keeps : (k h : ℕ) (b : Bool) → k ≡ 0 → h ≤ 3 → may_of p h ≡ true → b ≡ loss_of τ (ticks - 1) p h → b ≡ false → false ≡ round_of τ ticks k p
    round_keeps k h b e l m g f =
        all_fails (lost_of τ (ticks - 1) p) h 4 4 _ (omega arith) refl refl (keeps τ (ticks - 1) p h (may_of p h) b refl m g f) ∙ sym (decided k e)

    -- the row below k
    split : (k i : ℕ) → k ≡ i + 1 → round_of τ ticks k p
        ≡ (leb (slot_at p i).next p.clock && some_of τ (λ q. all_to (lost_of τ (ticks - 1) q) 4) i (released_of τ p i)
        || some_of τ (λ q. all_to (lost_of τ (ticks - 1) q) 4) i p)
    unfolding some_of
    split k i e = let s : k ≡ suc i = omega arith in turn k ∙ rw s

    pub round_early : (k : ℕ) (b : Bool) → (k ≡ 0 → ⊥) → p.clock < (slot_at p (k - 1)).next → b ≡ round_of τ ticks (k - 1) p → b ≡ round_of τ ticks k p
    round_early k b ne l g =
        g ∙ turn (k - 1) ∙ sym (split k (k - 1) (omega arith) ∙ simp (lt-leb (slot_at p (k - 1)).next p.clock l))

module _ (τ : TaskSet) (ticks : ℕ) (p q : Board) (some : ticks ≡ 0 → ⊥) (k : ℕ) (ne : k ≡ 0 → ⊥) (ready : (slot_at p (k - 1)).next ≤ p.clock)
    (e : q ≡ released_of τ p (k - 1)) (b : Bool) (f : b ≡ round_of τ ticks (k - 1) q) where
  released_turn : b ≡ some_of τ (λ q. all_to (lost_of τ (ticks - 1) q) 4) (k - 1) (released_of τ p (k - 1))
  released_turn = f ∙ turn τ ticks q some (k - 1) ∙ ap (some_of τ (λ q. all_to (lost_of τ (ticks - 1) q) 4) (k - 1)) e

  pub round_yes : b ≡ true → true ≡ round_of τ ticks k p
  round_yes t =
      sym (split τ ticks p some k (k - 1) (omega arith)
      ∙ simp (le-leb (slot_at p (k - 1)).next p.clock ready, sym released_turn ∙ t))

  pub round_not : (c : Bool) → b ≡ false → c ≡ round_of τ ticks (k - 1) p → c ≡ round_of τ ticks k p
  round_not c t g =
      g ∙ turn τ ticks p some (k - 1)
      ∙ sym (split τ ticks p some k (k - 1) (omega arith) ∙ simp (le-leb (slot_at p (k - 1)).next p.clock ready, sym released_turn ∙ t))

pub ruleset round_cases = (round_over, round_each, round_keeps, round_early, round_yes, round_not)

-- ---- the move that is tried first: a job that waits, or none

pub sooner_may : (p : Board) (i : ℕ) → i < 3 → ((slot_at p i).left ≡ 0 → ⊥) → may_of p i ≡ true
unfolding may_of
sooner_may p i l ne = simp (lt-ltb i 3 l) (lt-ltb 0 (slot_at p i).left (omega arith))

pub may_rest : (p : Board) → may_of p 3 ≡ true
unfolding may_of
may_rest p = refl
