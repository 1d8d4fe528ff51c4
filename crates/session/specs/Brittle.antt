-- Which rows of a sound session are brittle, and the brittle deadline (docs/SPECIFICATION.md §3.1, §5.4). Assumes nothing.
use Rattle.std.specs.Prelude.{ℕ, zero, suc, ◌*◌, ◌≤◌, ◌<◌, min, ◌≡◌, refl, Bool, true, false, cond, ◌⊎◌, List, length, replicate}
use Rattle.std.proofs.Common.{sym, ◌∙◌, true≢false, inl, inr, ⊎_elim, arith, length-take-le, le-leb}
use Rattle.std.proofs.Math.Path.{ap}
use Rattle.std.proofs.Math.Logic.{dite}
use Rattle.std.proofs.Math.Decide.{dec_lt, ℕ_discrete}
use Rattle.std.proofs.Math.ListN.{get_or}
use Rattle.std.proofs.lemmas.List.{get_or-replicate}
use Rattle.bounded.specs.Tests.{both}
use Rattle.bounded.specs.Fold.{fold_to}
use Rattle.table.specs.declared.budgets.Budgets.{Budgets}
use Rattle.table.specs.Rows.{tasks_of}
use Rattle.table.specs.Budgets.{brittle, budgets_of, marks_at}
use Rattle.table.specs.Statement.{HasKind}
use Rattle.table.proofs.TheoremsLaws.{kind_means}
use Rattle.session.specs.declared.Session.{Session}
use Rattle.session.specs.Reading.{far, job_at, rows_of, tasks, waits}
use Rattle.session.specs.Order.{next_due, brittle_due_lem, near}
use Rattle.session.specs.Sound.{sound}
use Rattle.session.specs.Facts.{Facts, facts_of, facts_fit, facts_deadline}

pub rows_count : (s : Session) → s.count ≤ 16 → length s.words ≡ 48 → (tasks s).rows ≡ s.count
unfolding rows_of tasks_of
rows_count s few places = omega (arith, length-take-le (3 * s.count) s.words (omega arith))

-- m says which rows are brittle
pub record Marks (s : Session) (m : List Bool) : Type 0 where
  pub at : (i : ℕ) → i < s.count → get_or m i false ≡ brittle (tasks s) i

-- a sound session's kind is that of its rows
pub facts_kind : (s : Session) → Facts s → HasKind (tasks s) s.kind
facts_kind s f = rw f.kind at (kind_means (rows_of s) f.admitted)

-- none of a loose session's rows is brittle, each of a tight one's is, and some row of a mixed one is
pub loose_rows : (s : Session) → Facts s → s.kind ≡ 1 → (i : ℕ) → i < (tasks s).rows → brittle (tasks s) i ≡ false
loose_rows s f = by (facts_kind s f)
  where
    by : {k : ℕ} → HasKind (tasks s) k → k ≡ 1 → (i : ℕ) → i < (tasks s).rows → brittle (tasks s) i ≡ false
    by (HasKind.is_loose h) z = h
    by (HasKind.is_tight h) z = absurd (omega arith)
    by (HasKind.is_mixed i j p a q b) z = absurd (omega arith)

pub tight_rows : (s : Session) → Facts s → s.kind ≡ 2 → (i : ℕ) → i < (tasks s).rows → brittle (tasks s) i ≡ true
tight_rows s f = by (facts_kind s f)
  where
    by : {k : ℕ} → HasKind (tasks s) k → k ≡ 2 → (i : ℕ) → i < (tasks s).rows → brittle (tasks s) i ≡ true
    by (HasKind.is_loose h) z = absurd (omega arith)
    by (HasKind.is_tight h) z = h
    by (HasKind.is_mixed i j p a q b) z = absurd (omega arith)

pub mixed_row : (s : Session) → Facts s → s.kind ≡ 3 → (i : ℕ) × (i < (tasks s).rows) × (brittle (tasks s) i ≡ true)
mixed_row s f = by (facts_kind s f)
  where
    by : {k : ℕ} → HasKind (tasks s) k → k ≡ 3 → (i : ℕ) × (i < (tasks s).rows) × (brittle (tasks s) i ≡ true)
    by (HasKind.is_loose h) z = absurd (omega arith)
    by (HasKind.is_tight h) z = absurd (omega arith)
    by (HasKind.is_mixed i j p a q b) z = (i, p, a)

-- ---- the brittle deadline

-- over the first n rows
abbrev pub due_to : Session → ℕ → ℕ
due_to s n = fold_to (λ m j. cond (brittle (tasks s) j) (min m (next_due s j)) m) far n

-- it is no later than the next deadline of any brittle row,
due_to_lem : (s : Session) (n j : ℕ) → j < n → brittle (tasks s) j ≡ true → due_to s n ≤ next_due s j
unfolding fold_to
due_to_lem s zero j l b = absurd (omega arith)
due_to_lem s (suc n) j l b =
    dite (ℕ_discrete j n)
    (λ e. let c : brittle (tasks s) n ≡ true = rw e at b in simp c (rw e (omega arith)))
    (λ ne.
    let ih = due_to_lem s n j (omega arith) b in
    both (brittle (tasks s) n) (λ c. simp c (omega arith)) (λ c. simp c ih))

pub due_le : (s : Session) (j : ℕ) → j < s.count → brittle (tasks s) j ≡ true → brittle_due_lem s ≤ next_due s j
unfolding brittle_due_lem
due_le s j l b = due_to_lem s s.count j l b

-- and is that of one, or `far`
due_at : (s : Session) (n : ℕ) → (due_to s n ≡ far) ⊎ ((j : ℕ) × (j < n) × (brittle (tasks s) j ≡ true) × (due_to s n ≡ next_due s j))
unfolding fold_to
due_at s zero = inl refl
due_at s (suc n) =
    both (brittle (tasks s) n)
    (λ c. simp c
    (dite (dec_lt (next_due s n) (due_to s n)) (λ l. inr (n, omega arith, c, omega arith))
    (λ l. same (omega arith) (due_at s n))))
    (λ c. simp c (same refl (due_at s n)))
  where
    same : {x : ℕ} → x ≡ due_to s n → (due_to s n ≡ far) ⊎ ((j : ℕ) × (j < n) × (brittle (tasks s) j ≡ true) × (due_to s n ≡ next_due s j))
        → (x ≡ far) ⊎ ((j : ℕ) × (j < suc n) × (brittle (tasks s) j ≡ true) × (x ≡ next_due s j))
    same e (inl f) = inl (e ∙ f)
    same e (inr (j, l, c, f)) = inr (j, omega arith, c, e ∙ f)

pub due_is : (s : Session) → (brittle_due_lem s ≡ far) ⊎ ((j : ℕ) × (j < s.count) × (brittle (tasks s) j ≡ true) × (brittle_due_lem s ≡ next_due s j))
unfolding brittle_due_lem
due_is s = due_at s s.count

-- in a loose session every waiting job is due by then
pub loose_near : (s : Session) → Facts s → length s.words ≡ 48 → s.kind ≡ 1 → (i : ℕ) → i < s.count → waits s i ≡ true → near s i ≡ true
unfolding near
loose_near s f places loose i l w =
    let j = f.job i l w in
    le-leb (job_at s i).due (brittle_due_lem s)
    (⊎_elim (λ d. omega (arith, d, j.deadline, f.next i l, f.clock, facts_deadline s f i))
    (λ d. absurd (true≢false (sym d.2 ∙ loose_rows s f loose d.0 (omega (arith, d.1, rows_count s f.few places)))))
    (due_is s))

-- ---- as the code has it

module _ (s : Session) (e : sound s ≡ true) (places : length s.words ≡ 48) where
  all_alike : (b : Bool) → ((i : ℕ) → i < (tasks s).rows → brittle (tasks s) i ≡ b) → Marks s (replicate 16 b)
  all_alike b h =
      let f = facts_of s e in
      record { at = λ i l. get_or-replicate 16 i b false (omega (arith, f.few)) ∙ sym (h i (omega (arith, rows_count s f.few places))) }

  pub marks_loose : s.kind ≡ 1 → Marks s (replicate 16 false)
  marks_loose k = all_alike false (loose_rows s (facts_of s e) k)

  pub marks_tight : s.kind ≡ 2 → Marks s (replicate 16 true)
  marks_tight k = all_alike true (tight_rows s (facts_of s e) k)

  pub marks_mixed : (b : Budgets) → b ≡ budgets_of (tasks s) → Marks s b.brittle
  unfolding budgets_of
  marks_mixed b h =
      let f = facts_of s e in
      record {
        at = λ i l. ap (λ (x : Budgets). get_or x.brittle i false) h
            ∙ marks_at (tasks s) i (facts_fit s f) (omega (arith, rows_count s f.few places));
      }

pub ruleset marks_cases = (marks_loose, marks_tight, marks_mixed)
