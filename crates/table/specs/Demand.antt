-- What the code computes of a row's demand. Assumes nothing.
use Rattle.std.specs.Prelude.{ℕ, ◌+◌, ◌-◌, ◌*◌, ◌/◌, ◌≤◌, ◌≡◌}
use Rattle.std.proofs.Common.{◌∙◌, arith, div-le_self, Fits}
use Rattle.std.proofs.Math.Logic.{dite}
use Rattle.std.proofs.Math.Nat.{div-eq_of_lt, add-div_right}
use Rattle.std.proofs.Math.Decide.{dec_le}
use Rattle.std.specs.Int.{w64}
use Rattle.edf.specs.Jobs.{jobs_by_lem, jobs_none, jobs_some}
use Rattle.edf.specs.Demand.{TaskSet, row_demand_lem}
use Rattle.table.specs.declared.inverse.Prepared.{Prepared}
use Rattle.bounded.specs.Within.{Within}
use Rattle.table.specs.Bound.{product_small, product_fits}
use Rattle.table.specs.Inverse.{Ready, Tame, tame_of}

-- how many jobs are due by t, as one quotient
module _ (D T t : ℕ) (h : 1 ≤ D) (l : D ≤ T) where
  jobs_quotient : (t + (T - D)) / T ≡ jobs_by_lem D T t
  jobs_quotient =
      dite (dec_le D t)
      (λ p.
      let e : t + (T - D) ≡ t - D + T = omega arith in
      rw (jobs_some D T t p, e) (omega (arith, add-div_right (t - D) {k = T} (omega arith))))
      (λ p. rw (jobs_none D T t (omega arith)) (div-eq_of_lt (omega arith)))

  pub jobs_small : t ≤ 1000000 → jobs_by_lem D T t ≤ 1000000
  jobs_small k =
      dite (dec_le D t)
      (λ p. rw (jobs_some D T t p) (omega (arith, div-le_self (t - D) T)))
      (λ p. rw (jobs_none D T t (omega arith)) (omega arith))

  pub jobs_is : (q : ℕ) → t ≤ 1000000 → q ≡ (t + (T - D)) / T → Within 1000000 (jobs_by_lem D T t) q
  jobs_is q k e =
      let same : q ≡ jobs_by_lem D T t = e ∙ jobs_quotient in
      record { is = same; small = omega (arith, jobs_small k) }

module _ (k : Prepared) (u : Tame k) (t q : ℕ) (w : Within 1000000 (jobs_by_lem k.deadline k.period t) q) where
  pub owe_fits : Fits w64 (k.run * q)
  owe_fits = product_fits k.run q (omega arith) w.small

  pub jobs_fits : Fits w64 (k.period * q)
  jobs_fits = product_fits k.period q u.limit w.small

  pub owe_is : Within 1000000000000 (k.run * jobs_by_lem k.deadline k.period t) (k.run * q)
  owe_is = record { is = rw w.is; small = product_small k.run q (omega arith) w.small }

pub ruleset owe_laws = (jobs_is, owe_fits, owe_is)

pub demand_is : (τ : TaskSet) (i t r : ℕ) (k : Prepared) → Ready τ i k → Within 1000000000000 (k.run * jobs_by_lem k.deadline k.period t) r → Within 1000000000000 (row_demand_lem τ t i) r
demand_is τ i t r k f w =
    record { is = w.is ∙ rw (f.row.run, f.row.period, f.row.deadline); small = w.small }

pub ruleset demand_laws = (tame_of, demand_is)
