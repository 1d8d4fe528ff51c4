-- An opinion computed with no look past the tick that decides it: the definitions search up to 1,000,000. Assumes nothing.
use Prim.Native.Nat.{ℕ, zero, suc, ◌≤◌, ◌<◌}
use Rattle.std.specs.Prelude.{◌≡◌, Bool, true, false, ◌&&◌, List, length}
use Rattle.std.proofs.Math.Path.{sym}
use Rattle.std.proofs.Math.Bool.{not}
use Rattle.std.proofs.Math.Logic.{dite}
use Rattle.std.proofs.Common.{arith}
use Rattle.std.proofs.Math.Decide.{dec_lt, ℕ_discrete}
use Rattle.std.proofs.Math.Dec.{leb, eqb}
use borrow.Author.Tests.{le-leb, le-ltb, eq-eqb, leb-true, eqb-false, not-true}
use Rattle.bounded.specs.Tests.{and-true}
use Rattle.bounded.specs.All.{all_to, all_at}
use Rattle.bounded.specs.Least.{least_found}
use Rattle.bounded.specs.Fixed.{least_fixed, fixed_low, fixed_at}
use Rattle.edf.specs.Demand.{TaskSet, demand, request}
use Rattle.table.specs.Rows.{horizon, tasks_of, first_broken_lem}
use Rattle.table.specs.Budgets.{loose}
use Rattle.table.specs.Busy.{busy_length}
use Rattle.table.specs.Verdict.{refusal, admitted, bad_length, compared_to, first_overload, overloaded, settled, heavy_kind, judged_of, opinion_of}
use Rattle.table.specs.Opinion.{overloaded_none, overloaded_first}

-- up to n there is no busy length, and no tick is exceeded
unfoldable pub quiet_to : TaskSet → ℕ → Bool
quiet_to τ n = all_to (λ k. not (eqb (request τ (suc k)) (suc k)) && leb (demand τ (suc k)) (suc k)) n

module _ (τ : TaskSet) (n : ℕ) (quiet : quiet_to τ n ≡ true) where
  quiet_at : (x : ℕ) → 1 ≤ x → x ≤ n → (eqb (request τ x) x ≡ false) × (demand τ x ≤ x)
  unfolding quiet_to
  quiet_at zero l h = absurd (omega arith)
  quiet_at (suc k) l h =
      let e =
      and-true (not (eqb (request τ (suc k)) (suc k))) (leb (demand τ (suc k)) (suc k))
      (all_at (λ k. not (eqb (request τ (suc k)) (suc k)) && leb (demand τ (suc k)) (suc k)) n quiet k (omega arith)) in
      (not-true (eqb (request τ (suc k)) (suc k)) e.0, leb-true (demand τ (suc k)) (suc k) e.1)

  -- so the busy length lies past n,
  quiet_busy : n ≤ horizon → n < busy_length τ
  unfolding busy_length least_fixed
  quiet_busy h =
      dite (dec_lt n (least_fixed (request τ) horizon)) (λ l. l)
      (λ l. absurd
      (eqb-false (request τ (least_fixed (request τ) horizon)) (least_fixed (request τ) horizon)
      (quiet_at (least_fixed (request τ) horizon) (fixed_low (request τ) horizon) (omega arith)).0
      (fixed_at (request τ) horizon (omega arith))))

  -- and is the next tick where that gives itself back
  pub busy_is : n < horizon → request τ (suc n) ≡ suc n → busy_length τ ≡ suc n
  unfolding busy_length least_fixed
  busy_is h e =
      sym
      (least_found (λ r. eqb (request τ r) r) 1 horizon (suc n) (omega arith) (omega arith) (eq-eqb (request τ (suc n)) (suc n) e)
      (λ j l k. (quiet_at j l (omega arith)).0))

  -- a table that ends so is not overloaded
  pub not_overloaded : n < horizon → request τ (suc n) ≡ suc n → demand τ (suc n) ≤ suc n → overloaded τ ≡ false
  unfolding compared_to
  not_overloaded h e d =
      overloaded_none τ
      (λ x l k. dite (ℕ_discrete x (suc n)) (λ q. rw q d)
      (λ q. (quiet_at x l (omega (arith, busy_is h e))).1))

  -- where the next tick is exceeded, it is the first
  pub first_over : n < horizon → suc n < demand τ (suc n) → (suc n ≡ first_overload τ) × (overloaded τ ≡ true)
  unfolding compared_to
  first_over h over =
      overloaded_first τ (suc n) (omega arith) (omega (arith, quiet_busy (omega arith))) over (λ x l k. (quiet_at x l (omega arith)).1)

module _ (l : List ℕ) (a : bad_length (length l) ≡ false) (b : first_broken_lem (tasks_of l) ≡ (tasks_of l).rows) (c : loose (tasks_of l) ≡ false) where
  pub opinion_over : (t : ℕ) → (t ≡ first_overload (tasks_of l)) × (overloaded (tasks_of l) ≡ true) → opinion_of l ≡ refusal 3 t (demand (tasks_of l) t)
  unfolding opinion_of judged_of
  opinion_over t d = simp (a, le-ltb (first_broken_lem (tasks_of l)) (tasks_of l).rows (omega arith), c, d.1, d.0)

  pub opinion_heavy : overloaded (tasks_of l) ≡ false → busy_length (tasks_of l) ≤ horizon → opinion_of l ≡ admitted (heavy_kind (tasks_of l)) (tasks_of l)
  unfolding opinion_of judged_of settled
  opinion_heavy d e =
      simp (a, le-ltb (first_broken_lem (tasks_of l)) (tasks_of l).rows (omega arith), c, d, le-leb (busy_length (tasks_of l)) horizon e)
