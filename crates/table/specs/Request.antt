-- What the code computes of a row's request and of the sum over all rows. Assumes nothing.
use Rattle.std.specs.Prelude.{ℕ, ◌≤◌, ◌*◌, ◌≡◌}
use Rattle.std.proofs.Common.{◌∙◌, arith, Fits}
use Rattle.std.specs.Int.{w64}
use Rattle.bounded.specs.Quotient.{ceil_div}
use Rattle.bounded.proofs.QuotientLaws.{ceil_small}
use Rattle.edf.specs.Demand.{TaskSet, row_request_lem}
use Rattle.table.specs.declared.inverse.Prepared.{Prepared}
use Rattle.table.specs.Rows.{horizon}
use Rattle.bounded.specs.Within.{Within}
use Rattle.table.specs.Bound.{product_small, product_fits}
use Rattle.table.specs.Inverse.{Ready, Tame, tame_of}

module _ (k : Prepared) (t : Tame k) (x q : ℕ) (h : x ≤ horizon) (e : q ≡ ceil_div x k.period) where
  pub quotient_small : q ≤ 1000000
  quotient_small = omega (arith, ceil_small x k.period (omega arith))

  pub ask_fits : Fits w64 (k.run * q)
  ask_fits = product_fits k.run q (omega arith) quotient_small

  pub periods_fits : Fits w64 (k.period * q)
  periods_fits = product_fits k.period q t.limit quotient_small

  pub ask_is : Within 1000000000000 (k.run * ceil_div x k.period) (k.run * q)
  ask_is = record { is = rw e; small = product_small k.run q (omega arith) quotient_small }

pub ruleset ask_laws = (ask_fits, ask_is)

pub request_is : (τ : TaskSet) (i x r : ℕ) (k : Prepared) → Ready τ i k → Within 1000000000000 (k.run * ceil_div x k.period) r → Within 1000000000000 (row_request_lem τ x i) r
request_is τ i x r k f w = record { is = w.is ∙ rw (f.row.run, f.row.period); small = w.small }

pub ruleset request_laws = (tame_of, request_is)
