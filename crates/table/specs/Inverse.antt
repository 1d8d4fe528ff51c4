-- Quotients by a period as a product with the period's inverse, in parts of 2 ^ 42. Assumes nothing.
use Prim.Native.Nat.{ℕ, suc, ◌+◌, ◌-◌, ◌*◌, ◌/◌, ◌≤◌, ◌<◌}
use Rattle.std.specs.Prelude.{◌≡◌, List, get_or, set, replicate}
use Rattle.std.proofs.Common.{◌∙◌, ap, div-mul-le_self, le-div_iff_mul-le, div-lt_iff_lt-mul, div-le_self, Fits}
use native.Mathlib.Omega.{arith}
use Rattle.std.proofs.Math.Nat.{mul-le-mul, mul-le-mul_left, mul-le-mul_right, lt-div-mul-add, lt_of_mul-lt-mul_right}
use Rattle.std.proofs.lemmas.List.{length-replicate}
use Rattle.std.specs.Int.{w64}
use Rattle.bounded.specs.Fold.{fold_to, put_start, put_next, put_at}
use Rattle.edf.specs.Demand.{TaskSet}
use Rattle.table.specs.declared.rows.Task.{Task}
use Rattle.table.specs.declared.inverse.Prepared.{Prepared}
use Rattle.table.specs.Rows.{Rule, Fit, FitRow}

-- 2 ^ 42
abbrev pub whole : ℕ
whole = 4398046511104

-- a little more than 2 ^ 42 / T
unfoldable pub inverse_of_lem : ℕ → ℕ
inverse_of_lem T = whole / T + 1

-- the first n rows' inverses in their places, and 0 in the others of 16
unfoldable pub inverses_to : TaskSet → ℕ → List ℕ
inverses_to τ n = fold_to (λ v i. set v i (inverse_of_lem (τ.T i))) (replicate 16 0) n

-- v holds each row's
pub record Inverses (τ : TaskSet) (v : List ℕ) : Type 0 where
  pub are : v ≡ inverses_to τ τ.rows

-- ---- one inverse

pub inverse_small : (T : ℕ) → inverse_of_lem T ≤ whole + 1
unfolding inverse_of_lem
inverse_small T = omega (arith, div-le_self whole T)

pub inverse_fits : (T : ℕ) → Fits w64 (whole / T + 1)
inverse_fits T = record { fits = omega (arith, div-le_self whole T) }

pub inverse_over : (T : ℕ) → 1 ≤ T → whole ≤ inverse_of_lem T * T
unfolding inverse_of_lem
inverse_over T h = omega (arith, lt-div-mul-add {a = whole} {b = T} h)

pub inverse_under : (T : ℕ) → (inverse_of_lem T - 1) * T ≤ whole
unfolding inverse_of_lem
inverse_under T = let e : whole / T + 1 - 1 ≡ whole / T = omega arith in rw e (div-mul-le_self whole T)

pub inverse_some : (T : ℕ) → 1 ≤ inverse_of_lem T
unfolding inverse_of_lem
inverse_some T = omega arith

pub inverse_more : (T : ℕ) → inverse_of_lem T ≡ inverse_of_lem T - 1 + 1
inverse_more T = omega (arith, inverse_some T)

-- one more than x / T would take is above what x and the inverse give
module _ (x T : ℕ) (few : x ≤ 2000000) (h : 1 ≤ T) (l : T ≤ 1000000) where
  quotient_low : x / T * whole ≤ x * inverse_of_lem T
  quotient_low =
      omega (
        arith,
        mul-le-mul_left (x / T) (inverse_over T h),
        mul-le-mul_right (inverse_of_lem T) (div-mul-le_self x T),
      )

  quotient_high : x * inverse_of_lem T < suc (x / T) * whole
  unfolding inverse_of_lem
  quotient_high =
      lt_of_mul-lt-mul_right T
      (omega (
        arith,
        mul-le-mul_left x (div-mul-le_self whole T),
        mul-le-mul_right {m = suc x} {n = suc (x / T) * T} whole (omega (arith, lt-div-mul-add {a = x} {b = T} h)),
        mul-le-mul {n₁ = x} {m₁ = T} {n₂ = 2000000} {m₂ = 1000000} few l,
      ))

  pub quotient_is : (m : ℕ) → m ≡ inverse_of_lem T → x * m / whole ≡ x / T
  quotient_is m e =
      rw e
      (omega (
        arith,
        (le-div_iff_mul-le {k = whole} {x = x / T} {y = x * inverse_of_lem T} (omega arith)).1 quotient_low,
        (div-lt_iff_lt-mul {k = whole} {x = x * inverse_of_lem T} {y = suc (x / T)} (omega arith)).1 quotient_high,
      ))

  pub quotient_fits : (m : ℕ) → m ≡ inverse_of_lem T → Fits w64 (x * m)
  quotient_fits m e =
      record { fits = omega (arith, mul-le-mul {n₁ = x} {m₁ = m} {n₂ = 2000000} {m₂ = 4398046511105} few (omega (arith, inverse_small T))) }

pub ruleset quotient_laws = (quotient_is, quotient_fits)

-- ---- the loop over the rows

pub inverses_start : (τ : TaskSet) → replicate 16 0 ≡ inverses_to τ 0
unfolding inverses_to
inverses_start τ = put_start (λ i. inverse_of_lem (τ.T i)) (replicate 16 0)

pub inverses_next : (τ : TaskSet) (v : List ℕ) (i m : ℕ) (k : Task) → v ≡ inverses_to τ i → FitRow τ i k → m ≡ inverse_of_lem k.period → set v i m ≡ inverses_to τ (i + 1)
unfolding inverses_to
inverses_next τ v i m k e f h =
    let r = f.row in
    put_next (λ i. inverse_of_lem (τ.T i)) (replicate 16 0) v i m e (h ∙ ap inverse_of_lem r.period)

pub inverses_done : (τ : TaskSet) (v : List ℕ) (i n : ℕ) → v ≡ inverses_to τ i → i ≤ n → n ≤ i → n ≡ τ.rows → Inverses τ v
inverses_done τ v i n e l h k = let j : i ≡ τ.rows = omega arith in record { are = e ∙ ap (inverses_to τ) j }

pub ruleset inverses_laws = (inverses_start, inverses_next, inverses_done)

-- ---- a row as the code reads it

-- k is row i, with its period's inverse
pub record Read (τ : TaskSet) (i : ℕ) (k : Prepared) : Type 0 where
  pub run : k.run ≡ τ.C i
  pub period : k.period ≡ τ.T i
  pub deadline : k.deadline ≡ τ.D i
  pub inverse : k.inverse ≡ inverse_of_lem k.period

-- the same, and the row keeps its rule
pub record Ready (τ : TaskSet) (i : ℕ) (k : Prepared) : Type 0 where
  pub row : Read τ i k
  pub rule : Rule τ i

pub ready_of : (τ : TaskSet) (v : List ℕ) (i m : ℕ) (k : Task) → Fit τ → Inverses τ v → i < τ.rows → FitRow τ i k → m ≡ get_or v i 0
    → Ready τ i (record { run = k.run; period = k.period; deadline = k.deadline; inverse = m })
unfolding inverses_to
ready_of τ v i m k fit e l f g =
    let r = f.row in
    record {
      row = record {
        run = r.run;
        period = r.period;
        deadline = r.deadline;
        inverse =
            g
            ∙ rw (e.are, r.period)
            (put_at (λ i. inverse_of_lem (τ.T i)) (replicate 16 0) τ.rows 0 (omega (arith, fit.few, length-replicate {A = ℕ} 16 0)) i l);
      };
      rule = f.rule;
    }

-- what a row's numbers are bounded by, whichever row it is
pub record Tame (k : Prepared) : Type 0 where
  pub some : 1 ≤ k.deadline
  pub run : k.run ≤ k.deadline
  pub apart : k.deadline ≤ k.period
  pub limit : k.period ≤ 1000000
  pub inverse : k.inverse ≡ inverse_of_lem k.period

pub tame_of : (τ : TaskSet) (i : ℕ) (k : Prepared) → Ready τ i k → Tame k
tame_of τ i k f =
    let r = f.row in
    let u = f.rule in
    record { some = omega arith; run = omega arith; apart = omega arith; limit = omega arith; inverse = r.inverse }
