-- More laws of specs/Theorems.antt: they rest on what a must-fail edit makes false. Assumes nothing.
use Prim.Native.Nat.{ℕ, zero, suc, ◌≤◌, ◌<◌}
use Rattle.std.specs.Prelude.{◌≡◌, refl, true, false, Result, List, ◌⊎◌, pos, length, get_or}
use Rattle.std.proofs.Common.{ap, ◌∙◌, inl, inr, ⊎_elim, arith}
use Rattle.std.proofs.Math.Bool.{not}
use Rattle.std.proofs.Math.Logic.{dite}
use Rattle.std.proofs.Math.Decide.{dec_le}
use Rattle.std.proofs.Math.Dec.{ltb}
use borrow.Author.Tests.{ltb-false, not-true, not-false}
use Rattle.bounded.specs.Tests.{both}
use Rattle.bounded.specs.All.{all_at, all_not}
use Rattle.bounded.specs.Least.{least_before}
use Rattle.edf.specs.Demand.{TaskSet, demand, demand_start, demand_shortened}
use Rattle.edf.proofs.DemandLaws.{demand_due}
use Rattle.edf.proofs.OverloadLaws.{overload}
use Rattle.table.specs.Rows.{tasks_of, first_broken_lem, Fit, fit_of, fit_lawful}
use Rattle.table.specs.Budgets.{brittle, loose, loose_to, firm, firm_to, values_of, values_at, loose_firm}
use Rattle.table.specs.Statement.{HasKind, KindMeans, EachBudget, AdmittedFits, OverloadDeserved, UnsettledMeans, FirstOverload, OverloadDue, ShortenedLater}
use Rattle.table.specs.Verdict.{Opinion, refusal, admitted, bad_length, compared_to, first_overload, overloaded, settled, heavy_kind, opinion_of}
use Rattle.table.specs.Opinion.{shown_of, Shows, shows_opinion, length_fit}
use Rattle.table.specs.declared.Numbers.{Numbers}
use Rattle.table.specs.declared.Judgement.{Judgement}
use Rattle.table.specs.declared.Refusal.{Refusal}
use Rattle.table.specs.Theorems.{Judged, opinion_case, loose_fits, settled_fits, overload_exceeded, unsettled_fits, unsettled_long, is_loose, is_over, is_heavy, is_unsettled}

-- what is known of any slice
data Outcome (l : List ℕ) : Opinion → Type 0 where
  is_length : Outcome l (refusal 1 (length l) 0)
  is_row : Outcome l (refusal 2 (first_broken_lem (tasks_of l)) 0)
  is_fit : {a : Opinion} → Fit (tasks_of l) → Judged (tasks_of l) a → Outcome l a

outcome : (l : List ℕ) → Outcome l (opinion_of l)
unfolding opinion_of
outcome l =
    both (bad_length (length l)) (λ e. simp e is_length)
    (λ e. both (ltb (first_broken_lem (tasks_of l)) (tasks_of l).rows) (λ f. simp (e, f) is_row)
    (λ f.
    let g = length_fit l e in
    simp (e, f) (is_fit (fit_of (tasks_of l) g.0 g.1 (ltb-false _ _ f)) (opinion_case (tasks_of l)))))

-- and so by the number of its opinion: one that is neither 1 nor 2 is on rows that keep their rule,
opinion_lawful : (l : List ℕ) → ((opinion_of l).number ≡ 1 → ⊥) → ((opinion_of l).number ≡ 2 → ⊥) → Fit (tasks_of l) × Judged (tasks_of l) (opinion_of l)
opinion_lawful l = by (outcome l)
  where
    by : {a : Opinion} → Outcome l a → (a.number ≡ 1 → ⊥) → (a.number ≡ 2 → ⊥) → Fit (tasks_of l) × Judged (tasks_of l) a
    by is_length p q = absurd (p refl)
    by is_row p q = absurd (q refl)
    by (is_fit fit o) p q = (fit, o)

-- a table that is admitted is loose, or its demand was compared up to its busy length,
abbrev Admits : TaskSet → Opinion → Type 0
Admits τ a = ((loose τ ≡ true) × (a ≡ admitted 1 τ)) ⊎ ((loose τ ≡ false) × (overloaded τ ≡ false) × (settled τ ≡ true) × (a ≡ admitted (heavy_kind τ) τ))

pub opinion_as : (l : List ℕ) → (opinion_of l).number ≡ 0 → Fit (tasks_of l) × Admits (tasks_of l) (opinion_of l)
opinion_as l z = let o = opinion_lawful l (λ e. omega arith) (λ e. omega arith) in (o.0, by o.1 z)
  where
    by : {a : Opinion} → Judged (tasks_of l) a → a.number ≡ 0 → Admits (tasks_of l) a
    by (is_loose e) z = inl (e, refl)
    by (is_over e) z = absurd (omega arith)
    by (is_heavy n e f) z = inr (n, e, f, refl)
    by (is_unsettled e f) z = absurd (omega arith)

-- so its rows keep their rule,
pub opinion_fit : (l : List ℕ) → (opinion_of l).number ≡ 0 → Fit (tasks_of l)
opinion_fit l e = (opinion_as l e).0

-- one refused with 3 is overloaded,
opinion_exceeded : (l : List ℕ) → (opinion_of l).number ≡ 3
    → Fit (tasks_of l) × (overloaded (tasks_of l) ≡ true)
    × (opinion_of l ≡ refusal 3 (first_overload (tasks_of l)) (demand (tasks_of l) (first_overload (tasks_of l))))
opinion_exceeded l z = let o = opinion_lawful l (λ e. omega arith) (λ e. omega arith) in let p = by o.1 z in (o.0, p.0, p.1)
  where
    by : {a : Opinion} → Judged (tasks_of l) a → a.number ≡ 3
        → (overloaded (tasks_of l) ≡ true) × (a ≡ refusal 3 (first_overload (tasks_of l)) (demand (tasks_of l) (first_overload (tasks_of l))))
    by (is_loose e) z = absurd (omega arith)
    by (is_over e) z = (e, refl)
    by (is_heavy n e f) z = absurd (omega arith)
    by (is_unsettled e f) z = absurd (omega arith)

-- and one refused with 4 has no busy length
opinion_unsettled : (l : List ℕ) → (opinion_of l).number ≡ 4
    → Fit (tasks_of l) × (overloaded (tasks_of l) ≡ false) × (settled (tasks_of l) ≡ false)
opinion_unsettled l z = let o = opinion_lawful l (λ e. omega arith) (λ e. omega arith) in let p = by o.1 z in (o.0, p.0, p.1)
  where
    by : {a : Opinion} → Judged (tasks_of l) a → a.number ≡ 4 → (overloaded (tasks_of l) ≡ false) × (settled (tasks_of l) ≡ false)
    by (is_loose e) z = absurd (omega arith)
    by (is_over e) z = absurd (omega arith)
    by (is_heavy n e f) z = absurd (omega arith)
    by (is_unsettled e f) z = (e, f)

-- ---- what they say of the demand

module _ (τ : TaskSet) (fit : Fit τ) where
  overload_before : (x : ℕ) → x < first_overload τ → demand τ x ≤ x
  unfolding first_overload
  overload_before zero h = demand_start τ (fit_lawful τ fit)
  overload_before (suc x) h = ltb-false _ _ (least_before (λ t. ltb t (demand τ t)) 1 (compared_to τ) (suc x) (omega arith) h)

  -- ---- what they say of the rows

  heavy_means : loose τ ≡ false → HasKind τ (heavy_kind τ)
  unfolding heavy_kind firm firm_to loose loose_to
  heavy_means e =
      let i = all_not (λ i. not (brittle τ i)) τ.rows e in
      both (firm τ)
      (λ f.
      let j = all_not (brittle τ) τ.rows (not-true _ f) in
      simp f (HasKind.is_mixed i.0 j.0 i.1 (not-false _ i.2) j.1 j.2))
      (λ f. simp f (HasKind.is_tight (all_at (brittle τ) τ.rows (not-false _ f))))

-- ---- the theorems

pub kind_means : KindMeans
kind_means l e =
    ⊎_elim (λ a. rw (ap (λ (x : Opinion). x.first) a.1) (HasKind.is_loose (loose_firm (tasks_of l) a.0)))
    (λ a. rw (ap (λ (x : Opinion). x.first) a.3) (heavy_means (tasks_of l) (opinion_fit l e) a.0)) (opinion_as l e).1

pub admitted_fits : AdmittedFits
admitted_fits l e =
    let a = opinion_as l e in
    ⊎_elim (λ b. loose_fits (tasks_of l) a.0 b.0) (λ b. settled_fits (tasks_of l) a.0 b.1 b.2) a.1

pub overload_deserved : OverloadDeserved
overload_deserved l e =
    let a = opinion_exceeded l e in
    overload (tasks_of l) (fit_lawful (tasks_of l) a.0) (first_overload (tasks_of l)) (overload_exceeded (tasks_of l) a.0 a.1)

pub first_overload_lem : FirstOverload
first_overload_lem l e =
    let a = opinion_exceeded l e in
    rw a.2 (overload_exceeded (tasks_of l) a.0 a.1, refl, overload_before (tasks_of l) a.0)

pub overload_due : OverloadDue
overload_due l e =
    let a = opinion_exceeded l e in
    let f = first_overload_lem l e in
    demand_due (tasks_of l) (fit_lawful (tasks_of l) a.0) (opinion_of l).first f.0 f.2

pub shortened_later : ShortenedLater
shortened_later l m e f s =
    dite (dec_le (opinion_of l).first (opinion_of m).first) (λ h. h)
    (λ h. absurd
    (omega (
      arith,
      (first_overload_lem m f).0,
      demand_shortened (tasks_of m) (tasks_of l) s (opinion_of m).first,
      (first_overload_lem l e).2 (opinion_of m).first (omega arith),
    )))

pub unsettled_means : UnsettledMeans
unsettled_means l e =
    let a = opinion_unsettled l e in
    (unsettled_fits (tasks_of l) a.0 a.1 a.2, unsettled_long (tasks_of l) a.0 a.2)

-- ---- what callers use

-- the opinion on an admitted table has its rows' budgets and their number
pub opinion_admitted : (l : List ℕ) → (opinion_of l).number ≡ 0
    → ((opinion_of l).budgets ≡ values_of (tasks_of l)) × ((opinion_of l).second ≡ (tasks_of l).rows)
opinion_admitted l e = ⊎_elim (λ b. by 1 b.1) (λ b. by (heavy_kind (tasks_of l)) b.3) (opinion_as l e).1
  where
    by : (k : ℕ) → opinion_of l ≡ admitted k (tasks_of l)
        → ((opinion_of l).budgets ≡ values_of (tasks_of l)) × ((opinion_of l).second ≡ (tasks_of l).rows)
    by k a = (ap (λ (x : Opinion). x.budgets) a, ap (λ (x : Opinion). x.second) a)

-- the rows of a table refused with 3 keep their rule
pub refused_fit : (l : List ℕ) → (opinion_of l).number ≡ 3 → Fit (tasks_of l)
refused_fit l e = (opinion_exceeded l e).0

-- and so do those of every opinion that is neither 1 nor 2
pub shown_fit : (l : List ℕ) (a : Result Judgement Refusal) (n : Numbers) → shown_of a ≡ opinion_of l → Shows a n → (n.number ≡ 1 → ⊥) → (n.number ≡ 2 → ⊥) → Fit (tasks_of l)
shown_fit l a n h s no1 no2 = (opinion_lawful l (λ e. no1 (number_is ∙ e)) (λ e. no2 (number_is ∙ e))).0
  where
    number_is : n.number ≡ (opinion_of l).number
    number_is = ap (λ (z : Opinion). z.number) (shows_opinion l a n h s)

pub each_budget : EachBudget
each_budget l e i h = ap (λ v. get_or v i (pos 0)) (opinion_admitted l e).0 ∙ values_at (tasks_of l) i (opinion_fit l e) h
