-- Numbers cut to what 64 bits hold: what the code reads where a number is greater. Assumes nothing.
use Rattle.std.specs.Prelude.{ℕ, zero, suc, ◌≤◌, ◌<◌, ◌^◌, min, ◌≡◌, refl, true, List, [], ◌∷◌, map, leb, length, get_or, None, Option, Some}
use Rattle.std.proofs.Common.{ap, arith, ltb-true, lt-ltb, leb-true, le-leb}
use Rattle.std.proofs.lemmas.List.{length-map}
use Rattle.bounded.specs.Tests.{and-true}
use Rattle.wording.specs.declared.Held.{Held}
use Rattle.wording.specs.Explanation.{Explanation, no_held, Fits, FitsJob}
use Rattle.reader.specs.Reading.{small, small_jobs, small_optional, fits}

-- the greatest u64 instead of a greater number
abbrev pub cut : ℕ → ℕ
cut n = min n 18446744073709551615

abbrev pub cut_job : Held → Held
cut_job j = record { row = cut j.row; due = cut j.due; budget = cut j.budget; candidate = j.candidate }

abbrev pub cut_optional : Option ℕ → Option ℕ
cut_optional None = None
cut_optional (Some n) = Some (cut n)

unfoldable pub cut_all : Explanation → Explanation
cut_all e = record {
  jobs = map cut_job e.jobs;
  brittle = cut_optional e.brittle;
  chosen = cut e.chosen;
  decided = cut_optional e.decided;
  span = cut e.span;
  cause = e.cause;
}

-- ---- the test is right

abbrev JobsFit : List Held → Type 0
JobsFit l = (i : ℕ) → i < length l → FitsJob (get_or l i no_held)

abbrev OptionalFits : Option ℕ → Type 0
OptionalFits o = (n : ℕ) → o ≡ Some n → n < 2 ^ 64

jobs_true : (l : List Held) → small_jobs l ≡ true → JobsFit l
unfolding small_jobs
jobs_true [] t i h = absurd (omega arith)
jobs_true (j ∷ l) t zero h =
    let a = and-true (small j.row) _ t in
    let b = and-true (small j.due) _ a.1 in
    let c = and-true (small j.budget) _ b.1 in
    record { row = ltb-true _ _ a.0; due = ltb-true _ _ b.0; budget = ltb-true _ _ c.0 }
jobs_true (j ∷ l) t (suc i) h =
    let a = and-true (small j.row) _ t in
    let b = and-true (small j.due) _ a.1 in
    jobs_true l (and-true (small j.budget) _ b.1).1 i (omega arith)

optional_true : (o : Option ℕ) → small_optional o ≡ true → OptionalFits o
optional_true None t n e = let z : ◌≡◌ {A = ℕ} 0 1 = cc in absurd (omega arith)
optional_true (Some m) t n e = let q : m ≡ n = cc in omega (arith, ltb-true m (2 ^ 64) t)

pub fits_true : (e : Explanation) → fits e ≡ true → Fits e
unfolding fits
fits_true e t =
    let a = and-true (leb (length e.jobs) 16) _ t in
    let b = and-true (small_jobs e.jobs) _ a.1 in
    let c = and-true (small_optional e.brittle) _ b.1 in
    let d = and-true (small e.chosen) _ c.1 in
    let f = and-true (small_optional e.decided) _ d.1 in
    record {
      few = leb-true _ _ a.0;
      jobs = jobs_true e.jobs b.0;
      brittle = optional_true e.brittle c.0;
      chosen = ltb-true _ _ d.0;
      decided = optional_true e.decided f.0;
      span = ltb-true _ _ f.1;
    }

true_jobs : (l : List Held) → JobsFit l → small_jobs l ≡ true
unfolding small_jobs
true_jobs [] f = refl
true_jobs (j ∷ l) f =
    let h : FitsJob j = f 0 (omega arith) in
    simp (lt-ltb _ _ h.row, lt-ltb _ _ h.due, lt-ltb _ _ h.budget, true_jobs l (λ i k. f (suc i) (omega arith)))

true_optional : (o : Option ℕ) → OptionalFits o → small_optional o ≡ true
true_optional None f = refl
true_optional (Some n) f = lt-ltb _ _ (f n refl)

pub true_fits : (e : Explanation) → Fits e → fits e ≡ true
unfolding fits
true_fits e f =
    simp (
      le-leb _ _ f.few,
      true_jobs e.jobs f.jobs,
      true_optional e.brittle f.brittle,
      lt-ltb _ _ f.chosen,
      true_optional e.decided f.decided,
      lt-ltb _ _ f.span,
    )

-- ---- what is cut fits, and what fits is not changed

small_cut : (n : ℕ) → cut n < 2 ^ 64
small_cut n = omega arith

same_cut : (n : ℕ) → n < 2 ^ 64 → cut n ≡ n
same_cut n h = omega arith

cut_jobs : (l : List Held) → JobsFit (map cut_job l)
cut_jobs [] i h = absurd (omega arith)
cut_jobs (j ∷ l) zero h = record { row = small_cut j.row; due = small_cut j.due; budget = small_cut j.budget }
cut_jobs (j ∷ l) (suc i) h = cut_jobs l i (omega arith)

cut_optional_lem : (o : Option ℕ) → OptionalFits (cut_optional o)
cut_optional_lem None n e = let z : ◌≡◌ {A = ℕ} 0 1 = cc in absurd (omega arith)
cut_optional_lem (Some m) n e = let q : cut m ≡ n = cc in omega (arith, small_cut m)

pub cut_fits : (e : Explanation) → length e.jobs ≤ 16 → Fits (cut_all e)
unfolding cut_all
cut_fits e h = record {
  few = omega (arith, length-map e.jobs cut_job);
  jobs = cut_jobs e.jobs;
  brittle = cut_optional_lem e.brittle;
  chosen = small_cut e.chosen;
  decided = cut_optional_lem e.decided;
  span = small_cut e.span;
}

jobs_cut : (l : List Held) → JobsFit l → map cut_job l ≡ l
jobs_cut [] f = refl
jobs_cut (j ∷ l) f =
    let h : FitsJob j = f 0 (omega arith) in
    rw (same_cut _ h.row, same_cut _ h.due, same_cut _ h.budget, jobs_cut l (λ i k. f (suc i) (omega arith)))

optional_cut : (o : Option ℕ) → OptionalFits o → cut_optional o ≡ o
optional_cut None f = refl
optional_cut (Some n) f = ap Some (same_cut n (f n refl))

pub fits_cut : (e : Explanation) → Fits e → cut_all e ≡ e
unfolding cut_all
fits_cut e f =
    rw (
      jobs_cut e.jobs f.jobs,
      optional_cut e.brittle f.brittle,
      same_cut e.chosen f.chosen,
      optional_cut e.decided f.decided,
      same_cut e.span f.span,
    )
