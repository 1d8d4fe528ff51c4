-- More laws of specs/State.antt: they rest on what a must-fail edit makes false. Assumes nothing.
use Rattle.std.specs.Prelude.{ℕ, ◌+◌, ◌-◌, ◌*◌, ◌≤◌, ◌<◌, ◌≡◌, true}
use Rattle.std.proofs.Math.Nat.{mul-le-mul_left}
use native.Mathlib.Omega.{arith}
use Rattle.bounded.specs.Sum.{sum_le, sum_le_at}
use Rattle.bounded.specs.Tests.{both}
use Rattle.edf.proofs.JobsLaws.{jobs_mono}
use Rattle.edf.specs.Demand.{TaskSet, Lawful, row_demand_lem, demand, Feasible}
use Rattle.edf.specs.State.{State, soonest, pending, to_come, row_load, load, Same, Others, pending_idle, pending_later, pending_same, soonest_le}

-- ---- the load

module _ (τ : TaskSet) (ok : Lawful τ) where
  -- the later a row's next job can arrive, the fewer are due by d
  to_come_le : (s s' : State) (d i : ℕ) → i < τ.rows → soonest s i ≤ soonest s' i → τ.C i * to_come τ s' d i ≤ τ.C i * to_come τ s d i
  unfolding to_come
  to_come_le s s' d i l h =
      mul-le-mul_left (τ.C i) (jobs_mono (τ.D i) (τ.T i) (d - soonest s' i) (d - soonest s i) (omega (arith, ok i l)) (omega arith))

  -- where nothing that waits is due by d, the load is at most what the rows can ask for from now on
  pub load_free : (s : State) (d : ℕ) → ((i : ℕ) → i < τ.rows → s.waits i ≡ true → d < s.due i) → load τ s d ≤ demand τ (d - s.clock)
  unfolding load demand to_come
  load_free s d free =
      sum_le (row_load τ s d) (row_demand_lem τ (d - s.clock)) τ.rows
      (λ i l.
      let none : pending s d i ≡ 0 = both (s.waits i) (λ w. pending_later s d i (free i l w)) (λ w. pending_idle s d i w) in
      omega (
        arith,
        mul-le-mul_left (τ.C i) (jobs_mono (τ.D i) (τ.T i) (d - soonest s i) (d - s.clock) (omega (arith, ok i l)) (omega arith)),
      ))

  -- and there is time for it, where the demand is never above t
  pub free_slack : Feasible τ → (s : State) (d : ℕ) → ((i : ℕ) → i < τ.rows → s.waits i ≡ true → d < s.due i) → s.clock ≤ d
      → s.clock + load τ s d ≤ d
  free_slack fe s d free h = omega (arith, load_free s d free, fe (d - s.clock))

  -- ---- from a state to one that is not before it

  module _ (s s' : State) (up : s.clock ≤ s'.clock) where
    -- where every row is as it was, the load does not grow
    pub load_same : ((i : ℕ) → i < τ.rows → Same s s' i) → (d : ℕ) → load τ s' d ≤ load τ s d
    unfolding load
    load_same same d =
        sum_le (row_load τ s' d) (row_load τ s d) τ.rows
        (λ i l. let e = same i l in omega (arith, pending_same s s' d i e, to_come_le s s' d i l (omega arith)))

    module _ (k : ℕ) (row : k < τ.rows) (others : Others τ k s s') (later : s.next k ≤ s'.next k) where
      -- and the load falls by as much as k's waiting job has less to do
      pub load_less : (d m : ℕ) → pending s' d k + m ≤ pending s d k → load τ s' d + m ≤ load τ s d
      unfolding load
      load_less d m less =
          omega (
            arith,
            sum_le_at (row_load τ s' d) (row_load τ s d) τ.rows k row
                (λ i u ne. omega (arith, pending_same s s' d i (others i u ne), to_come_le s s' d i u ((soonest_le τ ok s s' up k row others later) i u))),
            to_come_le s s' d k row ((soonest_le τ ok s s' up k row others later) k row),
          )
