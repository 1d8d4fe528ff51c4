-- The search decides the game. Assumes nothing.
use Prim.Native.Nat.{ℕ, zero, suc, ◌+◌, ◌-◌, ◌≤◌, ◌<◌}
use Rattle.std.specs.Prelude.{◌≡◌, Bool, ◌&&◌, ◌||◌, ◌⊎◌, leb, length, get_or, set}
use Rattle.std.proofs.Math.Path.{refl, sym, ap, subst}
use Rattle.std.proofs.Common.{◌∙◌, inl, inr, get_or-set_same, get_or-set_other}
use Rattle.std.proofs.Math.Bool.{true, false, not, cond, true≢false}
use Rattle.std.proofs.Math.Logic.{dite, ⊎_elim}
use native.Mathlib.Omega.{arith}
use Rattle.std.proofs.Math.Decide.{dec_lt, ℕ_discrete}
use Rattle.std.proofs.Math.Dec.{ltb, eqb}
use Rattle.std.proofs.Math.ListN.{length-set}
use borrow.Author.Tests.{le-leb, leb-true, lt-ltb, le-ltb, ltb-true, eq-eqb, ne_eqb, eqb-true, not-false, not-true}
use Rattle.bounded.specs.Tests.{both, and-true, and_both, or-true}
use Rattle.bounded.specs.All.{all_to, all_at, all_not}
use Rattle.edf.specs.Demand.{TaskSet}
use Rattle.edf.specs.Arrivals.{Tick, to, none}
use Rattle.gametree.specs.declared.board.Slot.{Slot}
use Rattle.gametree.specs.declared.board.Board.{Board}
use Rattle.game.specs.Game.{Position, released, MayPlay, played, Missed, Forces}
use Rattle.gametree.specs.Search.{slot_at, released_of, played_of, may_of, late_by, missed_of, some_of, lost_by, forced_of}

-- ---- the board as a position of the game

abbrev pub position_of : Board → Position
position_of p = record {
  clock = p.clock;
  next = λ i. (slot_at p i).next;
  due = λ i. (slot_at p i).due;
  left = λ i. (slot_at p i).left;
}

-- 3 slots, and those past the rows without a job
pub record Framed (τ : TaskSet) (p : Board) : Type 0 where
  pub size : length p.slots ≡ 3
  pub blank : (i : ℕ) → τ.rows ≤ i → (slot_at p i).left ≡ 0

-- two positions that agree everywhere are the same
pub position_ext : (p q : Position) → p.clock ≡ q.clock → ((i : ℕ) → p.next i ≡ q.next i) → ((i : ℕ) → p.due i ≡ q.due i)
    → ((i : ℕ) → p.left i ≡ q.left i) → p ≡ q
position_ext p q a b c d = λ j. record { clock = a j; next = λ i. b i j; due = λ i. c i j; left = λ i. d i j }

slot_same : (p : Board) (k : ℕ) (x : Slot) (i : ℕ) → k < length p.slots
    → get_or (set p.slots k x) i (record { next = 0; due = 0; left = 0 }) ≡ cond (eqb i k) x (slot_at p i)
slot_same p k x i l =
    dite (ℕ_discrete i k)
    (λ e. simp (eq-eqb i k e) (rw e (get_or-set_same p.slots k x _ l)))
    (λ ne. simp (ne_eqb i k ne) (get_or-set_other p.slots k i x _ ne))

-- what f says of the slot of row i, where row k has another one
slot_says : {B : Type 0} (f : Slot → B) (i k : ℕ) (x s : Slot) {y : B} → (i ≡ k → f x ≡ y) → f (cond (eqb i k) x s) ≡ cond (eqb i k) y (f s)
slot_says f i k x s h = dite (ℕ_discrete i k) (λ e. simp (eq-eqb i k e) (h e)) (λ ne. simp (ne_eqb i k ne))

neither : (a b : Bool) → (a || b) ≡ false → (a ≡ false) × (b ≡ false)
neither true b e = absurd (true≢false e)
neither false b e = (refl, e)

module _ (τ : TaskSet) (few : τ.rows ≤ 3) where
  -- ---- a release

  module _ (p : Board) (fr : Framed τ p) (k : ℕ) (row : k < τ.rows) where
    release_at : (i : ℕ) → slot_at (released_of τ p k) i
        ≡ cond (eqb i k) (record { next = p.clock + τ.T k; due = p.clock + τ.D k; left = τ.C k }) (slot_at p i)
    unfolding released_of
    release_at i = slot_same p k _ i (omega (arith, fr.size))

    release_position : position_of (released_of τ p k) ≡ released τ (λ i. eqb i k) (position_of p)
    unfolding released_of
    release_position =
        position_ext _ _ refl (λ i. at (λ (x : Slot). x.next) i (λ e. rw e)) (λ i. at (λ (x : Slot). x.due) i (λ e. rw e))
        (λ i. at (λ (x : Slot). x.left) i (λ e. rw e))
      where
        at : {B : Type 0} (f : Slot → B) {y : B} (i : ℕ)
            → (i ≡ k → f (record { next = p.clock + τ.T k; due = p.clock + τ.D k; left = τ.C k }) ≡ y)
            → f (slot_at (released_of τ p k) i) ≡ cond (eqb i k) y (f (slot_at p i))
        at f i h = ap f (release_at i) ∙ slot_says f i k _ (slot_at p i) h

    release_framed : Framed τ (released_of τ p k)
    unfolding released_of
    release_framed = record {
      size = length-set p.slots k _ ∙ fr.size;
      blank = λ i h. ap (λ (x : Slot). x.left) (release_at i) ∙ simp (ne_eqb i k (λ e. omega arith)) (fr.blank i h);
    }

  -- ---- the rows below k, one by one, and a set of rows

  -- what is released of a set, and of one row more
  or_cond : {A : Type 0} (a b : Bool) (x y : A) → cond (a || b) x y ≡ cond a x (cond b x y)
  or_cond true b x y = refl
  or_cond false b x y = refl

  release_more : (r : ℕ → Bool) (k : ℕ) (s : Position) → released τ r (released τ (λ i. eqb i k) s) ≡ released τ (λ i. r i || eqb i k) s
  release_more r k s =
      position_ext _ _ refl (λ i. sym (or_cond (r i) (eqb i k) _ _)) (λ i. sym (or_cond (r i) (eqb i k) _ _))
      (λ i. sym (or_cond (r i) (eqb i k) _ _))

  -- r is a set of rows below k that may be released at p, and q the board after it
  record Releases (p q : Board) (k : ℕ) (r : ℕ → Bool) : Type 0 where
    below : (i : ℕ) → r i ≡ true → i < k
    legal : (i : ℕ) → r i ≡ true → (slot_at p i).next ≤ p.clock
    position : position_of q ≡ released τ r (position_of p)
    framed : Framed τ q

  -- arrivals have a release after which f holds
  abbrev Found : (Board → Bool) → ℕ → Board → Type 0
  Found f k p = (r : ℕ → Bool) × (q : Board) × Releases p q k r × (f q ≡ true)

  found_more : (f : Board → Bool) (k : ℕ) (p : Board) → Framed τ p → k < τ.rows → (slot_at p k).next ≤ p.clock
      → Found f k (released_of τ p k) → Found f (suc k) p
  unfolding released_of
  found_more f k p fr row ready g =
      let r = g.0 in
      let c = g.2 in (
        λ i. r i || eqb i k,
        g.1,
        record {
          below = λ i e. ⊎_elim (λ a. omega (arith, c.below i a)) (λ b. omega (arith, eqb-true i k b)) (or-true (r i) (eqb i k) e);
          legal = λ i e. ⊎_elim
              (λ a.
              let ne : ¬ (i ≡ k) = λ q. omega (arith, c.below i a) in
              let s : slot_at (released_of τ p k) i ≡ slot_at p i = release_at p fr k row i ∙ simp (ne_eqb i k ne) in
              omega (arith, c.legal i a, ap (λ (x : Slot). x.next) s))
              (λ b. rw (eqb-true i k b) ready) (or-true (r i) (eqb i k) e);
          position = c.position ∙ ap (released τ r) (release_position p fr k row) ∙ release_more r k (position_of p);
          framed = c.framed;
        },
        g.3,
      )

  some_found : (f : Board → Bool) (k : ℕ) (p : Board) → Framed τ p → k ≤ τ.rows → some_of τ f k p ≡ true → Found f k p
  unfolding some_of
  some_found f zero p fr h e = (
    λ i. false,
    p,
    record { below = λ i e. absurd (true≢false (sym e)); legal = λ i e. absurd (true≢false (sym e)); position = refl; framed = fr },
    e,
  )
  some_found f (suc k) p fr h e =
      ⊎_elim
      (λ a.
      let b = and-true (leb (slot_at p k).next p.clock) (some_of τ f k (released_of τ p k)) a in
      found_more f k p fr (omega arith) (leb-true _ _ b.0)
      (some_found f k (released_of τ p k) (release_framed p fr k (omega arith)) (omega arith) b.1))
      (λ a.
      let g = some_found f k p fr (omega arith) a in
      (g.0, g.1, record { below = λ i e. omega (arith, g.2.below i e); legal = g.2.legal; position = g.2.position; framed = g.2.framed }, g.3))
      (or-true (leb (slot_at p k).next p.clock && some_of τ f k (released_of τ p k)) (some_of τ f k p) e)

  -- where the search finds none, f holds after no release

  without : (ℕ → Bool) → ℕ → ℕ → Bool
  without r k i = r i && not (eqb i k)

  without_or : (r : ℕ → Bool) (k i : ℕ) → r k ≡ true → (without r k i || eqb i k) ≡ r i
  unfolding without
  without_or r k i e =
      dite (ℕ_discrete i k)
      (λ q. simp (eq-eqb i k q) (either (r i && false) ∙ sym (rw q e)))
      (λ ne. simp (ne_eqb i k ne) (just (r i)))
    where
      either : (b : Bool) → (b || true) ≡ true
      either true = refl
      either false = refl

      just : (b : Bool) → (b && true || false) ≡ b
      just true = refl
      just false = refl

  -- f fails on the board after the rows r
  abbrev Fails : (Board → Bool) → (ℕ → Bool) → Board → Type 0
  Fails f r p = (q : Board) × (position_of q ≡ released τ r (position_of p)) × Framed τ q × (f q ≡ false)

  -- a row and then the others are all of them
  fails_more : (f : Board → Bool) (r : ℕ → Bool) (k : ℕ) (p : Board) → Framed τ p → k < τ.rows → r k ≡ true
      → Fails f (without r k) (released_of τ p k) → Fails f r p
  fails_more f r k p fr row t g = (
    g.0,
    g.1 ∙ ap (released τ (without r k)) (release_position p fr k row) ∙ release_more (without r k) k (position_of p)
        ∙ ap (λ (z : ℕ → Bool). released τ z (position_of p)) (λ j i. without_or r k i t j),
    g.2,
    g.3,
  )

  none_found : (f : Board → Bool) (k : ℕ) (p : Board) → Framed τ p → k ≤ τ.rows → some_of τ f k p ≡ false
      → (r : ℕ → Bool) → ((i : ℕ) → r i ≡ true → i < k) → ((i : ℕ) → r i ≡ true → (slot_at p i).next ≤ p.clock)
      → Fails f r p
  unfolding some_of without
  none_found f zero p fr h e r below legal =
      let z : (i : ℕ) → r i ≡ false = λ i. both (r i) (λ t. absurd (omega (arith, below i t))) (λ t. t) in
      (p, position_ext _ _ refl (λ i. simp (z i)) (λ i. simp (z i)) (λ i. simp (z i)), fr, e)
  none_found f (suc k) p fr h e r below legal =
      let row : k < τ.rows = omega arith in
      both (r k)
      (λ t.
      let ready = le-leb (slot_at p k).next p.clock (legal k t) in
      let a : (some_of τ f k (released_of τ p k) || some_of τ f k p) ≡ false = simp ready at e in
      fails_more f r k p fr row t
      (none_found f k (released_of τ p k) (release_framed p fr k row) (omega arith) (neither _ _ a).0 (without r k)
      (λ i u.
      let v = and-true (r i) (not (eqb i k)) u in
      let ne : ¬ (i ≡ k) = λ q. true≢false (sym v.1 ∙ ap not (eq-eqb i k q)) in
      omega (arith, below i v.0))
      (λ i u.
      let v = and-true (r i) (not (eqb i k)) u in
      let ne : ¬ (i ≡ k) = λ q. true≢false (sym v.1 ∙ ap not (eq-eqb i k q)) in
      let s : slot_at (released_of τ p k) i ≡ slot_at p i = release_at p fr k row i ∙ simp (ne_eqb i k ne) in
      let c : (released_of τ p k).clock ≡ p.clock = unfold released_of in refl in
      omega (arith, legal i v.0, ap (λ (x : Slot). x.next) s))))
      (λ t.
      none_found f k p fr (omega arith)
      (neither (leb (slot_at p k).next p.clock && some_of τ f k (released_of τ p k)) (some_of τ f k p) e).1 r
      (λ i u. dite (ℕ_discrete i k) (λ q. absurd (true≢false (sym u ∙ rw q t))) (λ ne. omega (arith, below i u))) legal)

  -- ---- a tick

  module _ (p : Board) (fr : Framed τ p) where
    tick_at : (k : ℕ) → k < 3 → (i : ℕ)
        → slot_at (played_of p k) i ≡ cond (eqb i k) (record { next = (slot_at p k).next; due = (slot_at p k).due; left = (slot_at p k).left - 1 }) (slot_at p i)
    unfolding played_of
    tick_at k l i = simp (lt-ltb k 3 l) (slot_same p k _ i (omega (arith, fr.size)))

    tick_position : (k : ℕ) → k < 3 → position_of (played_of p k) ≡ played (to k) (position_of p)
    tick_position k l =
        position_ext _ _ (clock_is k) (λ i. keep (λ (x : Slot). x.next) i refl) (λ i. keep (λ (x : Slot). x.due) i refl)
        (λ i. at (λ (x : Slot). x.left) i (λ e. rw e))
      where
        clock_is : (m : ℕ) → (played_of p m).clock ≡ p.clock + 1
        clock_is m = unfold played_of in refl

        at : {B : Type 0} (f : Slot → B) {y : B} (i : ℕ)
            → (i ≡ k → f (record { next = (slot_at p k).next; due = (slot_at p k).due; left = (slot_at p k).left - 1 }) ≡ y)
            → f (slot_at (played_of p k) i) ≡ cond (eqb i k) y (f (slot_at p i))
        at f i h = ap f (tick_at k l i) ∙ slot_says f i k _ (slot_at p i) h

        keep : {B : Type 0} (f : Slot → B) (i : ℕ)
            → f (record { next = (slot_at p k).next; due = (slot_at p k).due; left = (slot_at p k).left - 1 }) ≡ f (slot_at p k)
            → f (slot_at (played_of p k) i) ≡ f (slot_at p i)
        keep f i h = ap f (tick_at k l i) ∙ dite (ℕ_discrete i k) (λ e. simp (eq-eqb i k e) (rw e h)) (λ ne. simp (ne_eqb i k ne))

    idle_position : position_of (played_of p 3) ≡ played none (position_of p)
    unfolding played_of
    idle_position = refl

    tick_framed : (m : ℕ) → Framed τ (played_of p m)
    tick_framed m =
        dite (dec_lt m 3)
        (λ l. record {
          size = size m l;
          blank = λ i h. ap (λ (x : Slot). x.left) (tick_at m l i)
              ∙ dite (ℕ_discrete i m)
              (λ e. simp (eq-eqb i m e) (omega (arith, fr.blank i h, ap (λ (z : ℕ). (slot_at p z).left) e)))
              (λ ne. simp (ne_eqb i m ne) (fr.blank i h));
        })
        (λ l. rested m (omega arith))
      where
        size : (m : ℕ) → m < 3 → length (played_of p m).slots ≡ 3
        size m l = unfold played_of in simp (lt-ltb m 3 l) (length-set p.slots m _ ∙ fr.size)

        rested : (m : ℕ) → 3 ≤ m → Framed τ (played_of p m)
        rested m l = unfold played_of in record {
          size = simp (le-ltb m 3 l) fr.size;
          blank = λ i h. simp (le-ltb m 3 l) (fr.blank i h);
        }

  -- a job is unfinished at its deadline
  missed_yes : (p : Board) → Framed τ p → missed_of p ≡ true → Missed τ (position_of p)
  unfolding missed_of
  missed_yes p fr e =
      let r = all_not (λ i. not (late_by (slot_at p i) p.clock)) 3 (not-true _ e) in
      let i = r.0 in
      let a = and-true (ltb 0 (slot_at p i).left) (leb (slot_at p i).due p.clock) (not-false (late_by (slot_at p i) p.clock) r.2) in
      dite (dec_lt i τ.rows) (λ l. (i, l, ltb-true 0 (slot_at p i).left a.0, leb-true _ _ a.1))
      (λ l. absurd (omega (arith, fr.blank i (omega arith), ltb-true 0 (slot_at p i).left a.0)))

  missed_not : (p : Board) → missed_of p ≡ false → Missed τ (position_of p) → ⊥
  unfolding missed_of
  missed_not p e a =
      let t = all_at (λ i. not (late_by (slot_at p i) p.clock)) 3 (not-false _ e) a.0 (omega (arith, a.1)) in
      true≢false (sym t ∙ ap not (and_both _ _ (lt-ltb _ _ a.2) (le-leb _ _ a.3)))

  -- ---- the search decides the game

  pub record Decides (b : Bool) (P : Type 0) : Type 0 where
    pub holds : b ≡ true → P
    pub fails : b ≡ false → P → ⊥

  module _ (t : ℕ) (ih : (p : Board) → Framed τ p → Decides (forced_of τ t p) (Forces τ t (position_of p))) where
    abbrev lost : Board → ℕ → Bool
    lost = lost_by (λ r. forced_of τ t r)

    -- each move loses
    abbrev Against : Position → Type 0
    Against s = (m : Tick) → MayPlay τ s m → Missed τ (played m s) ⊎ Forces τ t (played m s)

    lost_at : (q : Board) → Framed τ q → (m : ℕ) → may_of q m ≡ true → lost q m ≡ true
        → Missed τ (position_of (played_of q m)) ⊎ Forces τ t (position_of (played_of q m))
    lost_at q fr m may e =
        let f = tick_framed q fr m in
        let a : (missed_of (played_of q m) || forced_of τ t (played_of q m)) ≡ true = simp may at e in
        ⊎_elim (λ x. inl (missed_yes (played_of q m) f x)) (λ x. inr ((ih (played_of q m) f).holds x))
        (or-true (missed_of (played_of q m)) (forced_of τ t (played_of q m)) a)

    all_lost : (q : Board) → Framed τ q → all_to (lost q) 4 ≡ true → Against (position_of q)
    unfolding may_of
    all_lost q fr e (to k) may =
        let l : k < 3 = omega (arith, may.0) in
        subst (λ (s : Position). Missed τ s ⊎ Forces τ t s) (tick_position q fr k l)
        (lost_at q fr k (simp (lt-ltb k 3 l) (lt-ltb _ _ may.1)) (all_at (lost q) 4 e k (omega arith)))
    all_lost q fr e none may =
        subst (λ (s : Position). Missed τ s ⊎ Forces τ t s) (idle_position q fr) (lost_at q fr 3 refl (all_at (lost q) 4 e 3 (omega arith)))

    -- one does not
    kept_at : (q : Board) → Framed τ q → (m : ℕ) → lost q m ≡ false
        → (may_of q m ≡ true) × (Missed τ (position_of (played_of q m)) ⊎ Forces τ t (position_of (played_of q m)) → ⊥)
    kept_at q fr m e =
        both (may_of q m)
        (λ may.
        let a : (missed_of (played_of q m) || forced_of τ t (played_of q m)) ≡ false = simp may at e in
        let b = neither (missed_of (played_of q m)) (forced_of τ t (played_of q m)) a in
        (may, ⊎_elim (missed_not (played_of q m) b.0) ((ih (played_of q m) (tick_framed q fr m)).fails b.1)))
        (λ no_move. let a : true ≡ false = simp no_move at e in absurd (true≢false a))

    not_lost : (q : Board) → Framed τ q → all_to (lost q) 4 ≡ false → Against (position_of q) → ⊥
    unfolding may_of
    not_lost q fr e against =
        let r = all_not (lost q) 4 e in
        let m = r.0 in
        let k = kept_at q fr m r.2 in
        dite (dec_lt m 3)
        (λ l.
        let w : ltb 0 (slot_at q m).left ≡ true = simp (lt-ltb m 3 l) at k.0 in
        dite (dec_lt m τ.rows)
        (λ row. k.1 (subst (λ (s : Position). Missed τ s ⊎ Forces τ t s) (sym (tick_position q fr m l)) (against (to m) (row, ltb-true 0 (slot_at q m).left w))))
        (λ past. omega (arith, fr.blank m (omega arith), ltb-true 0 (slot_at q m).left w)))
        (λ l.
        let e₃ : m ≡ 3 = omega (arith, r.1) in
        k.1 (subst (λ (z : ℕ). Missed τ (position_of (played_of q z)) ⊎ Forces τ t (position_of (played_of q z))) (sym e₃)
        (subst (λ (s : Position). Missed τ s ⊎ Forces τ t s) (sym (idle_position q fr)) (against none tt))))

    abbrev round : Board → Bool
    round q = all_to (lost q) 4

    found_forces : (p : Board) → Found round τ.rows p → Forces τ (suc t) (position_of p)
    found_forces p g =
        let c = g.2 in
        (g.0, λ i e. (c.below i e, c.legal i e), subst Against c.position (all_lost g.1 c.framed g.3))

    none_forces : (p : Board) → Framed τ p → some_of τ round τ.rows p ≡ false → Forces τ (suc t) (position_of p) → ⊥
    none_forces p fr e f =
        let n = none_found round τ.rows p fr (omega arith) e f.0 (λ i u. (f.1 i u).0) (λ i u. (f.1 i u).1) in
        not_lost n.0 n.2 n.3 (subst Against (sym n.1) f.2)

  pub forced_is : (t : ℕ) (p : Board) → Framed τ p → Decides (forced_of τ t p) (Forces τ t (position_of p))
  unfolding forced_of
  forced_is zero p fr = record { holds = λ e. absurd (true≢false (sym e)); fails = λ e f. f }
  forced_is (suc t) p fr = record {
    holds = λ e. found_forces t (λ q f. forced_is t q f) p (some_found (λ q. all_to (lost_by (λ r. forced_of τ t r) q) 4) τ.rows p fr (omega arith) e);
    fails = λ e. none_forces t (λ q f. forced_is t q f) p fr e;
  }
