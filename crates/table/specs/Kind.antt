-- What a session's check asks of a table, its kind and which rows are brittle, and the cases of its code
-- (docs/SPECIFICATION.md §5.2). Assumes nothing.
-- ---- the code's ways out, for rows that keep their rule
use Rattle.std.specs.Prelude.{ℕ, ◌≤◌, ◌<◌, ◌≡◌, Bool, List, Option, Some, None, IfSome, is_some, eqb, length}
use Rattle.std.proofs.Common.{sym, ◌∙◌, true≢false, arith}
use Rattle.std.proofs.Math.Bool.{true, false}
use borrow.Author.Tests.{eqb-true, lt-ltb, le-ltb}
use Rattle.bounded.specs.Tests.{both}
use Rattle.edf.specs.Demand.{TaskSet}
use Rattle.table.specs.declared.budgets.Budgets.{Budgets}
use Rattle.table.specs.declared.kind.Admission.{Admission}
use Rattle.table.specs.declared.kind.Kind.{Kind}
use Rattle.table.specs.declared.kind.Kind.TheVariants.{Loose, Tight, Mixed}
use Rattle.table.specs.declared.overload.Found.{Found}
use Rattle.table.specs.Rows.{tasks_of, first_broken_lem, FirstBroken, Fit}
use Rattle.table.specs.Budgets.{marks_of, budgets_of}
use Rattle.table.specs.Overload as search
use Rattle.table.specs.Verdict.{bad_length, heavy_kind, overloaded, settled, judged_of, opinion_of, kind_in, kind_of}
use Rattle.table.specs.Opinion.{kind_number, is_loose_lem, is_marks, heavy_kind_lem, say_fit}
use Rattle.table.specs.Settle.{found, Settles, unsettled_by, settled_by, fits_by, over_by}

-- an admission in numbers: its kind's, and 0 where there is none
abbrev pub admitted_as : Option Admission → ℕ
admitted_as None = 0
admitted_as (Some a) = kind_number a.kind

-- the kind of rows that keep their rule; where they are admitted, which of them are brittle
pub record FitKind (τ : TaskSet) (k : Option Admission) : Type 0 where
  pub number : admitted_as k ≡ kind_in (judged_of τ)
  pub brittle : IfSome k (λ a. a.brittle ≡ marks_of τ)

module _ (τ : TaskSet) (fit : Fit τ) (b : Budgets) (e : b ≡ budgets_of τ) where
  with_marks : (k : Kind) → kind_number k ≡ kind_in (judged_of τ) → FitKind τ (Some (record { kind = k; brittle = b.brittle }))
  with_marks k h = record { number = h; brittle = is_marks τ b e }

  refused : 0 ≡ kind_in (judged_of τ) → FitKind τ None
  refused h = record { number = h; brittle = tt }

  pub kind_loose : b.loose ≡ true → FitKind τ (Some (record { kind = Loose; brittle = b.brittle }))
  unfolding judged_of
  kind_loose t = with_marks Loose (simp (sym (is_loose_lem τ b e) ∙ t))

  module _ (no : b.loose ≡ false) where
    pub kind_unsettled : Settles τ None → FitKind τ None
    unfolding judged_of
    kind_unsettled s =
        let u = unsettled_by τ fit s in
        refused
        (both (overloaded τ) (λ o. simp (sym (is_loose_lem τ b e) ∙ no, o)) (λ o. simp (sym (is_loose_lem τ b e) ∙ no, o, u)))

    module _ (x n : ℕ) (s : Settles τ (Some x)) (o : Option Found) (r : search.Searched τ 0 x o n) where
      pub kind_over : is_some o ≡ true → FitKind τ None
      unfolding judged_of
      kind_over t = refused (simp (sym (is_loose_lem τ b e) ∙ no, by s r t))
        where
          by : {o : Option Found} → Settles τ (Some x) → search.Searched τ 0 x o n → is_some o ≡ true → overloaded τ ≡ true
          by (found l m k) (search.over {f} w) t = over_by τ fit x l m k f.at (omega (arith, w.is, w.over))
          by (found l m k) (search.none c g) t = absurd (true≢false (sym t))

      -- the kind k of a table that is not loose
      kind_heavy : is_some o ≡ false → (k : ℕ) → heavy_kind τ ≡ k → k ≡ kind_in (judged_of τ)
      unfolding judged_of
      kind_heavy z k q = let w = by s r z in simp (sym (is_loose_lem τ b e) ∙ no, w.0, w.1, q)
        where
          by : {o : Option Found} → Settles τ (Some x) → search.Searched τ 0 x o n → is_some o ≡ false → (overloaded τ ≡ false) × (settled τ ≡ true)
          by (found l m k) (search.over w) z = absurd (true≢false z)
          by (found l m k) (search.none c g) z = (fits_by τ fit _ l m k g, settled_by τ fit _ l m k)

      pub kind_mixed : is_some o ≡ false → b.firm ≡ true → FitKind τ (Some (record { kind = Mixed; brittle = b.brittle }))
      kind_mixed z t = with_marks Mixed (kind_heavy z 3 (heavy_kind_lem τ b e true t))

      pub kind_tight : is_some o ≡ false → b.firm ≡ false → FitKind τ (Some (record { kind = Tight; brittle = b.brittle }))
      kind_tight z t = with_marks Tight (kind_heavy z 2 (heavy_kind_lem τ b e false t))

pub ruleset kind_fit_cases = (kind_loose, kind_unsettled, kind_over, kind_mixed, kind_tight)

-- ---- and for any slice

-- its kind, and where it is not refused, which rows are brittle
pub record KindFor (l : List ℕ) (k : Option Admission) : Type 0 where
  pub number : admitted_as k ≡ kind_of l
  pub brittle : IfSome k (λ a. a.brittle ≡ marks_of (tasks_of l))

module _ (l : List ℕ) (b : Bool) (e : b ≡ bad_length (length l)) where
  none_for : 0 ≡ kind_of l → KindFor l None
  none_for h = record { number = h; brittle = tt }

  pub kind_length : b ≡ true → KindFor l None
  unfolding kind_of opinion_of
  kind_length t = none_for (simp (sym e ∙ t))

  module _ (no : b ≡ false) where
    pub kind_row : (r : Option ℕ) → FirstBroken (tasks_of l) r → is_some r ≡ true → KindFor l None
    unfolding kind_of opinion_of
    kind_row None f t = absurd (true≢false (sym t))
    kind_row (Some i) f t =
        none_for (simp (sym e ∙ no, lt-ltb (first_broken_lem (tasks_of l)) (tasks_of l).rows (omega (arith, f.0, f.1))))

    none_broken : (r : Option ℕ) → FirstBroken (tasks_of l) r → is_some r ≡ false → (tasks_of l).rows ≡ first_broken_lem (tasks_of l)
    none_broken None f z = f
    none_broken (Some i) f z = absurd (true≢false z)

    pub kind_fit : (r : Option ℕ) → FirstBroken (tasks_of l) r → is_some r ≡ false → Fit (tasks_of l)
    kind_fit r f z = say_fit l b e no (none_broken r f z)

    pub kind_judged : (r : Option ℕ) (k : Option Admission) → FirstBroken (tasks_of l) r → is_some r ≡ false → FitKind (tasks_of l) k → KindFor l k
    unfolding kind_of opinion_of
    kind_judged r k f z j =
        let same = none_broken r f z in
        record {
          number = simp (sym e ∙ no, le-ltb (first_broken_lem (tasks_of l)) (tasks_of l).rows (omega arith)) j.number;
          brittle = j.brittle;
        }

-- ---- what a kind says of the opinion

module _ (l : List ℕ) where
  pub kind_some : (kind_of l ≡ 0 → ⊥) → ((opinion_of l).number ≡ 0) × ((opinion_of l).first ≡ kind_of l)
  unfolding kind_of
  kind_some ne =
      both (eqb (opinion_of l).number 0)
      (λ t. (eqb-true _ _ t, simp t))
      (λ t. absurd (ne (simp t)))
