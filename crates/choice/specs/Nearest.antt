-- The brittle deadline as the code has it, in ticks from the clock (docs/SPECIFICATION.md §5.4). Assumes nothing.
use Rattle.std.specs.Prelude.{ℕ, zero, suc, ◌+◌, ◌-◌, ◌*◌, ◌≤◌, ◌<◌, min, ◌≡◌, Bool, true, false, ◌&&◌, cond, List, leb, eqb, length, get_or, replicate}
use Rattle.std.proofs.Math.Path.{refl, sym}
use Rattle.std.proofs.Common.{ap, ◌∙◌, add-one, arith, get_or-take}
use Rattle.std.proofs.Math.Logic.{dite}
use Rattle.std.proofs.Math.Decide.{dec_le, ℕ_discrete}
use Rattle.std.proofs.lemmas.List.{get_or-replicate}
use borrow.Author.Tests.{le-leb, lt-leb, eq-eqb, ne_eqb}
use Rattle.bounded.specs.Tests.{both}
use Rattle.bounded.specs.Fold.{fold_to}
use Rattle.table.specs.Rows.{horizon, tasks_of}
use Rattle.table.specs.Budgets.{brittle}
use Rattle.table.specs.Statement.{HasKind}
use Rattle.session.specs.declared.Session.{Session}
use Rattle.choice.specs.declared.Watch.{Watch}
use Rattle.session.specs.Reading.{far, clock_end, job_at, rows_of, tasks, waits, most_budget}
use Rattle.session.specs.Sound.{sound}
use Rattle.session.specs.Facts.{Facts, facts_of, facts_fit, facts_row}
use Rattle.session.specs.Order.{head_of, next_due, brittle_due_lem, near}
use Rattle.session.specs.First.{head_waits}
use Rattle.session.specs.Brittle.{rows_count, Marks, facts_kind, tight_rows, loose_near}

-- more ticks than any waiting job has to its deadline, and than any D
abbrev pub last : ℕ
last = 1048575

-- a row's D among the session's words
pub word_is : (s : Session) (i : ℕ) → i < s.count → get_or s.words (3 * i + 2) 0 ≡ (tasks s).D i
unfolding rows_of tasks_of
word_is s i l = sym (get_or-take (3 * s.count) s.words (3 * i + 2) 0 (omega arith))

-- b is the ticks to the brittle deadline, as far as a choice looks at it: where the head's budget is not spent, the waiting
-- jobs due in b ticks at most are those due by the brittle deadline, and b is `last` only in a loose session
pub record Nearest (s : Session) (b : ℕ) : Type 0 where
  pub most : b ≤ last
  pub near : head_of s < s.count → 1 ≤ (job_at s (head_of s)).budget
      → (i t : ℕ) → i < s.count → waits s i ≡ true → (job_at s i).due ≡ s.clock + t → t ≤ horizon → leb t b ≡ near s i
  pub loose : head_of s < s.count → 1 ≤ (job_at s (head_of s)).budget → eqb b last ≡ eqb s.kind 1

-- ---- the loop over the rows

-- the ticks to the earliest deadline that row j's next job can have
abbrev pub next_ticks : Session → ℕ → ℕ
next_ticks s j = (job_at s j).next - s.clock + (tasks s).D j

-- whether it is looked at: in a mixed session, where the row is brittle
unfoldable pub watched : Session → ℕ → Bool
watched s j = eqb s.kind 3 && brittle (tasks s) j

-- where the loop starts: no waiting job has more than 1,000,000 ticks to its deadline
unfoldable pub most_ticks : Session → ℕ
most_ticks s = cond (eqb s.kind 3) horizon last

-- the least of these over the first n rows
unfoldable pub ticks_to : Session → ℕ → ℕ
ticks_to s n = fold_to (λ m j. cond (watched s j) (min m (next_ticks s j)) m) (most_ticks s) n

-- as the code has it
unfoldable pub watch_by : ℕ → List Bool → Watch
watch_by kind m = cond (eqb kind 3) record { rows = m; most = horizon } record { rows = replicate 16 false; most = last }

pub watch_mixed : (kind : ℕ) (m : List Bool) → kind ≡ 3 → record { rows = m; most = horizon } ≡ watch_by kind m
unfolding watch_by
watch_mixed kind m e = sym (simp (eq-eqb kind 3 e))

pub watch_other : (kind : ℕ) (m : List Bool) → (kind ≡ 3 → ⊥) → record { rows = replicate 16 false; most = last } ≡ watch_by kind m
unfolding watch_by
watch_other kind m ne = sym (simp (ne_eqb kind 3 ne))

pub ruleset watch_cases = (watch_mixed, watch_other)

pub record Watches (s : Session) (w : Watch) : Type 0 where
  pub rows : (i : ℕ) → i < s.count → get_or w.rows i false ≡ watched s i
  pub most : w.most ≡ most_ticks s

mixed_watch : (s : Session) → s.kind ≡ 3 → (most_ticks s ≡ horizon) × ((i : ℕ) → watched s i ≡ brittle (tasks s) i)
unfolding watched most_ticks
mixed_watch s k = let e = eq-eqb s.kind 3 k in (simp e, λ i. simp e)

other_watch : (s : Session) → (s.kind ≡ 3 → ⊥) → (most_ticks s ≡ last) × ((i : ℕ) → watched s i ≡ false)
unfolding watched most_ticks
other_watch s ne = let f = ne_eqb s.kind 3 ne in (simp f, λ i. simp f)

pub watches_of : (s : Session) (m : List Bool) (w : Watch) → s.count ≤ 16 → Marks s m → w ≡ watch_by s.kind m → Watches s w
watches_of s m w few h e =
    dite (ℕ_discrete s.kind 3)
    (λ k.
    let x = mixed_watch s k in
    rw (e ∙ sym (watch_mixed s.kind m k)) (record { rows = λ i l. h.at i l ∙ sym (x.1 i); most = sym x.0 }))
    (λ ne.
    let x = other_watch s ne in
    rw (e ∙ sym (watch_other s.kind m ne))
    (record { rows = λ i l. get_or-replicate 16 i false false (omega arith) ∙ sym (x.1 i); most = sym x.0 }))

-- one turn
unfoldable pub nearer_by : ℕ → Bool → ℕ → ℕ → ℕ → ℕ
nearer_by m b next clock d = cond b (min m (next - clock + d)) m

module _ (m : ℕ) (b : Bool) (next clock d : ℕ) where
  pub nearer_brittle : (x y r : ℕ) → b ≡ true → x ≡ next - clock → y ≡ d → r ≡ min m (x + y) → r ≡ nearer_by m b next clock d
  unfolding nearer_by
  nearer_brittle x y r t e w g = g ∙ rw (e, w) (sym (simp t))

  pub nearer_other : b ≡ false → m ≡ nearer_by m b next clock d
  unfolding nearer_by
  nearer_other f = sym (simp f)

pub ruleset nearer_cases = (nearer_brittle, nearer_other)

-- the numbers of one row are small enough to be added
pub turn_small : (s : Session) (i : ℕ) → sound s ≡ true → length s.words ≡ 48 → i < s.count
    → ((job_at s i).next ≤ s.clock + horizon) × (get_or s.words (3 * i + 2) 0 ≤ horizon)
turn_small s i e places l =
    let f = facts_of s e in
    let r = (facts_fit s f).row i (omega (arith, rows_count s f.few places)) in
    (omega (arith, f.next i l, r), omega (arith, word_is s i l, r))

pub ticks_start : (s : Session) (w : Watch) → Watches s w → w.most ≡ ticks_to s 0
unfolding ticks_to fold_to
ticks_start s w h = h.most

pub ticks_next : (s : Session) (w : Watch) (m r i : ℕ) → m ≡ ticks_to s i → Watches s w → i < s.count
    → r ≡ nearer_by m (get_or w.rows i false) (job_at s i).next s.clock (get_or s.words (3 * i + 2) 0) → r ≡ ticks_to s (i + 1)
unfolding ticks_to fold_to nearer_by
ticks_next s w m r i e h l g = g ∙ rw (add-one, e, h.rows i l, word_is s i l)

-- ---- what it comes to

-- in a mixed session a job due in t ticks is due by the brittle deadline of the first n rows exactly if t is no more than their ticks
ticks_due : (s : Session) → s.kind ≡ 3 → s.clock ≤ clock_end → (t : ℕ) → t ≤ horizon → (n : ℕ)
    → (t ≤ ticks_to s n → s.clock + t ≤ fold_to (λ m j. cond (brittle (tasks s) j) (min m (next_due s j)) m) far n)
    × (s.clock + t ≤ fold_to (λ m j. cond (brittle (tasks s) j) (min m (next_due s j)) m) far n → t ≤ ticks_to s n)
unfolding ticks_to fold_to
ticks_due s k c t h zero = (λ l. omega arith, λ l. omega (arith, (mixed_watch s k).0))
ticks_due s k c t h (suc n) =
    let ih = ticks_due s k c t h n in
    let x = (mixed_watch s k).1 n in
    both (brittle (tasks s) n)
    (λ b. simp (x ∙ b, b)
    ((λ l. let a = ih.0 (omega arith) in omega arith), (λ l. let a = ih.1 (omega arith) in omega arith)))
    (λ b. simp (x ∙ b, b) ih)

ticks_near : (s : Session) → s.kind ≡ 3 → s.clock ≤ clock_end → (i t : ℕ) → (job_at s i).due ≡ s.clock + t → t ≤ horizon
    → leb t (ticks_to s s.count) ≡ near s i
unfolding near brittle_due_lem
ticks_near s k c i t d h =
    let e = ticks_due s k c t h s.count in
    rw d
    (dite (dec_le t (ticks_to s s.count)) (λ l. le-leb t _ l ∙ sym (le-leb (s.clock + t) _ (e.0 l)))
    (λ l. lt-leb t _ (omega arith) ∙ sym (dite (dec_le (s.clock + t) _) (λ k. absurd (l (e.1 k))) (λ k. lt-leb (s.clock + t) _ (omega arith)))))

ticks_most : (s : Session) → s.kind ≡ 3 → (n : ℕ) → ticks_to s n ≤ horizon
unfolding ticks_to fold_to
ticks_most s k zero = omega (arith, (mixed_watch s k).0)
ticks_most s k (suc n) =
    both (watched s n) (λ b. simp b (omega (arith, ticks_most s k n))) (λ b. simp b (ticks_most s k n))

-- in the others no row is looked at
ticks_other : (s : Session) → (s.kind ≡ 3 → ⊥) → (n : ℕ) → ticks_to s n ≡ last
unfolding ticks_to fold_to
ticks_other s ne zero = (other_watch s ne).0
ticks_other s ne (suc n) = simp ((other_watch s ne).1 n) (ticks_other s ne n)

pub ticks_small : (s : Session) (m n : ℕ) → m ≡ ticks_to s n → m ≤ last
ticks_small s m n e =
    dite (ℕ_discrete s.kind 3) (λ k. omega (arith, ticks_most s k n)) (λ ne. omega (arith, ticks_other s ne n))

module _ (s : Session) (e : sound s ≡ true) where
  nearest_mixed : s.kind ≡ 3 → Nearest s (ticks_to s s.count)
  nearest_mixed k =
      let small = ticks_most s k s.count in
      record {
        most = omega arith;
        near = λ u b i t l w d h. ticks_near s k (facts_of s e).clock i t d h;
        loose = λ u b. ne_eqb (ticks_to s s.count) last (λ z. omega arith) ∙ sym (ne_eqb s.kind 1 (λ z. omega arith));
      }

  -- in a loose session every waiting job is due by the brittle deadline, and in a tight one the head's budget is spent
  nearest_other : length s.words ≡ 48 → (s.kind ≡ 3 → ⊥) → Nearest s last
  unfolding most_budget
  nearest_other places ne =
      record {
        most = omega arith;
        near = λ u b i t l w d h. le-leb t last (omega arith) ∙ sym (loose_near s f places (loose u b) i l w);
        loose = λ u b. eq-eqb last last refl ∙ sym (eq-eqb s.kind 1 (loose u b));
      }
    where
      f : Facts s
      f = facts_of s e

      -- a session in which the head has budget is not tight
      tight_spent : s.kind ≡ 2 → head_of s < s.count → 1 ≤ (job_at s (head_of s)).budget → ⊥
      tight_spent k u b =
          let w = head_waits s u in
          let r = tight_rows s f k (head_of s) (facts_row s f (head_of s) u w) in
          let z : (job_at s (head_of s)).budget ≤ 0 = simp r at (f.job (head_of s) u w).budget in
          omega arith

      loose : head_of s < s.count → 1 ≤ (job_at s (head_of s)).budget → s.kind ≡ 1
      loose u b = by (facts_kind s f) refl
        where
          by : {k : ℕ} → HasKind (tasks s) k → s.kind ≡ k → s.kind ≡ 1
          by (HasKind.is_loose h) z = z
          by (HasKind.is_tight h) z = absurd (tight_spent z u b)
          by (HasKind.is_mixed i j p a q c) z = absurd (ne z)

  pub nearest_is : length s.words ≡ 48 → (m i n : ℕ) → m ≡ ticks_to s i → i ≤ n → n ≤ i → n ≡ s.count → Nearest s m
  nearest_is places m i n q h l c =
      let is : m ≡ ticks_to s s.count = q ∙ ap (ticks_to s) (omega arith) in
      rw is
      (dite (ℕ_discrete s.kind 3) (λ k. nearest_mixed k) (λ ne. rw (ticks_other s ne s.count) (nearest_other places ne)))

pub ruleset nearest_laws = (ticks_start, ticks_next, ticks_small)
