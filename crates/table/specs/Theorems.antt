-- What an opinion on a table means: the proofs of `Statement`, and the laws of opinions. Assumes nothing.
-- ---- the cases of the definitions
use Prim.Native.Nat.{ℕ, ◌≤◌, ◌<◌}
use Rattle.std.specs.Prelude.{◌≡◌, refl, true, false}
use Rattle.std.proofs.Common.{arith}
use Rattle.std.proofs.Math.Dec.{ltb}
use borrow.Author.Tests.{leb-true, leb-false, ltb-true, ltb-false, le-ltb}
use Rattle.bounded.specs.Tests.{both}
use Rattle.bounded.specs.Least.{least_at, least_before}
use Rattle.bounded.specs.Fixed.{fixed_low, fixed_at, fixed_before}
use Rattle.edf.specs.Demand.{TaskSet, Feasible, demand, request}
use Rattle.edf.proofs.DemandLaws.{busy_suffices, loose_suffices}
use Rattle.table.specs.Rows.{horizon, tasks_of, first_broken_lem, Fit, fit_of, fit_lawful}
use Rattle.table.specs.Budgets.{loose, firm_row, loose_firm}
use Rattle.table.specs.Busy.{busy_length}
use Rattle.table.specs.Statement.{FittingRefused}
use Rattle.table.specs.Verdict.{Opinion, refusal, admitted, compared_to, first_overload, overloaded, settled, heavy_kind, judged_of, opinion_of}
use Rattle.table.specs.Opinion.{length_fit}

-- what is known of rows that keep their rule, by the opinion on them
pub data Judged (τ : TaskSet) : Opinion → Type 0 where
  is_loose : loose τ ≡ true → Judged τ (admitted 1 τ)
  is_over : overloaded τ ≡ true → Judged τ (refusal 3 (first_overload τ) (demand τ (first_overload τ)))
  is_heavy : loose τ ≡ false → overloaded τ ≡ false → settled τ ≡ true → Judged τ (admitted (heavy_kind τ) τ)
  is_unsettled : overloaded τ ≡ false → settled τ ≡ false → Judged τ (refusal 4 horizon 0)

pub opinion_case : (τ : TaskSet) → Judged τ (judged_of τ)
unfolding judged_of
opinion_case τ =
    both (loose τ) (λ e. simp e (is_loose e))
    (λ e. both (overloaded τ) (λ f. simp (e, f) (is_over f))
    (λ f. both (settled τ) (λ g. simp (e, f, g) (is_heavy e f g)) (λ g. simp (e, f, g) (is_unsettled f g))))

-- ---- what they say of the demand

module _ (τ : TaskSet) (fit : Fit τ) where
  pub loose_fits : loose τ ≡ true → Feasible τ
  loose_fits e =
      loose_suffices τ (fit_lawful τ fit) (λ i l. firm_row τ i (loose_firm τ e i l))

  -- where the range is not overloaded, no tick of it is exceeded
  pub compared_fits : overloaded τ ≡ false → (t : ℕ) → 1 ≤ t → t ≤ compared_to τ → demand τ t ≤ t
  unfolding overloaded first_overload
  compared_fits e t l h =
      ltb-false t (demand τ t)
      (least_before (λ t. ltb t (demand τ t)) 1 (compared_to τ) t l (omega (arith, leb-false (first_overload τ) (compared_to τ) e)))

  pub settled_fits : overloaded τ ≡ false → settled τ ≡ true → Feasible τ
  unfolding settled compared_to busy_length
  settled_fits e s =
      let h = leb-true (busy_length τ) horizon s in
      busy_suffices τ (fit_lawful τ fit) (busy_length τ) (fixed_low (request τ) horizon) (omega (arith, fixed_at (request τ) horizon h))
      (λ t l k. compared_fits e t l (omega arith))

  -- where it is, the first overload is exceeded, and no tick before it
  pub overload_exceeded : overloaded τ ≡ true → first_overload τ < demand τ (first_overload τ)
  unfolding overloaded first_overload
  overload_exceeded e =
      ltb-true _ _ (least_at (λ t. ltb t (demand τ t)) 1 (compared_to τ) (omega (arith, leb-true (first_overload τ) (compared_to τ) e)))

  pub unsettled_fits : overloaded τ ≡ false → settled τ ≡ false → (t : ℕ) → 1 ≤ t → t ≤ horizon → demand τ t ≤ t
  unfolding settled compared_to
  unsettled_fits e s t l h = compared_fits e t l (omega (arith, leb-false (busy_length τ) horizon s))

  pub unsettled_long : settled τ ≡ false → (r : ℕ) → 1 ≤ r → r ≤ horizon → request τ r ≡ r → ⊥
  unfolding settled busy_length
  unsettled_long s r l h = fixed_before (request τ) horizon r l (omega (arith, leb-false (busy_length τ) horizon s))

pub fitting_refused : FittingRefused
unfolding opinion_of
fitting_refused l a b fits =
    let g = length_fit l a in
    simp (a, le-ltb (first_broken_lem (tasks_of l)) (tasks_of l).rows (omega arith))
    (by (fit_of (tasks_of l) g.0 g.1 (omega arith)) (opinion_case (tasks_of l)))
  where
    by : {r : Opinion} → Fit (tasks_of l) → Judged (tasks_of l) r → (r.number ≡ 0 → ⊥)
        → (r.number ≡ 4) × ((r : ℕ) → 1 ≤ r → r ≤ horizon → request (tasks_of l) r ≡ r → ⊥)
    by fit (is_loose x) ne = absurd (ne refl)
    by fit (is_over x) ne = absurd (omega (arith, overload_exceeded (tasks_of l) fit x, fits (first_overload (tasks_of l))))
    by fit (is_heavy n x y) ne = absurd (ne refl)
    by fit (is_unsettled x y) ne = (refl, unsettled_long (tasks_of l) fit y)
