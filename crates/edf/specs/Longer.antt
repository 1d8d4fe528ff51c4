-- A table in which the run of one row is longer, and what that changes (docs/SPECIFICATION.md §14.2, §14.3). Assumes nothing.
use Rattle.std.specs.Prelude.{ℕ, ◌+◌, ◌*◌, ◌<◌, ◌≡◌}
use Rattle.std.proofs.Math.Path.{sym}
use Rattle.std.proofs.Common.{◌∙◌}
use Rattle.std.proofs.Math.Logic.{dite}
use native.Mathlib.Omega.{arith}
use Rattle.std.proofs.Math.Decide.{ℕ_discrete}
use Rattle.bounded.specs.Sum.{sum_eq, sum_eq_at}
use Rattle.bounded.specs.Besides.{besides, besides_is, besides_none}
use Rattle.bounded.specs.Quotient.{ceil_div}
use Rattle.edf.specs.Jobs.{jobs_by_lem}
use Rattle.edf.specs.Demand.{TaskSet, row_demand_lem, demand, row_request_lem, interference}

-- τ' is τ with x ticks more in C of row j
pub record Longer (τ τ' : TaskSet) (j x : ℕ) : Type 0 where
  pub rows : τ'.rows ≡ τ.rows
  pub known : j < τ.rows
  pub more : τ'.C j ≡ τ.C j + x
  pub run : (i : ℕ) → ¬ (i ≡ j) → τ'.C i ≡ τ.C i
  pub period : (i : ℕ) → τ'.T i ≡ τ.T i
  pub deadline : (i : ℕ) → τ'.D i ≡ τ.D i

module _ (τ τ' : TaskSet) (j x : ℕ) (m : Longer τ τ' j x) where
  same_request : (r k : ℕ) → ¬ (k ≡ j) → row_request_lem τ' r k ≡ row_request_lem τ r k
  same_request r k ne = rw (m.run k ne, m.period k)

  more_request : (r : ℕ) → row_request_lem τ' r j ≡ row_request_lem τ r j + x * ceil_div r (τ.T j)
  more_request r = rw (m.more, m.period j) (omega arith)

  same_demand : (t k : ℕ) → ¬ (k ≡ j) → row_demand_lem τ' t k ≡ row_demand_lem τ t k
  same_demand t k ne = rw (m.run k ne, m.period k, m.deadline k)

  more_demand : (t : ℕ) → row_demand_lem τ' t j ≡ row_demand_lem τ t j + x * jobs_by_lem (τ.D j) (τ.T j) t
  more_demand t = rw (m.more, m.period j, m.deadline j) (omega arith)

  -- what is asked of another row rises by x for each job of j in the stretch,
  pub interference_longer : (i r : ℕ) → ¬ (i ≡ j) → interference τ' i r ≡ interference τ i r + x * ceil_div r (τ.T j)
  unfolding interference
  interference_longer i r ne =
      rw m.rows
      (omega (
        arith,
        sum_eq_at (besides (row_request_lem τ' r) i) (besides (row_request_lem τ r) i) τ.rows j m.known (λ k l q. others k q),
        besides_is (row_request_lem τ' r) i j (λ q. ne (sym q)),
        besides_is (row_request_lem τ r) i j (λ q. ne (sym q)),
        more_request r,
      ))
    where
      others : (k : ℕ) → ¬ (k ≡ j) → besides (row_request_lem τ' r) i k ≡ besides (row_request_lem τ r) i k
      others k q = rw (m.run k q, m.period k)

  -- and of j itself it stays
  pub interference_own : (r : ℕ) → interference τ' j r ≡ interference τ j r
  unfolding interference
  interference_own r =
      rw m.rows
      (sum_eq (besides (row_request_lem τ' r) j) (besides (row_request_lem τ r) j) τ.rows
      (λ k l. dite (ℕ_discrete k j)
      (λ e. besides_none (row_request_lem τ' r) j k e ∙ sym (besides_none (row_request_lem τ r) j k e))
      (λ ne. besides_is (row_request_lem τ' r) j k ne ∙ same_request r k ne ∙ sym (besides_is (row_request_lem τ r) j k ne))))

  -- the demand rises by x for each job of j that is due
  pub demand_longer : (t : ℕ) → demand τ' t ≡ demand τ t + x * jobs_by_lem (τ.D j) (τ.T j) t
  unfolding demand
  demand_longer t =
      rw m.rows
      (omega (arith, sum_eq_at (row_demand_lem τ' t) (row_demand_lem τ t) τ.rows j m.known (λ k l q. same_demand t k q), more_demand t))
