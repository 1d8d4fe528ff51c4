-- More laws of specs/Mixed.antt: they rest on what a must-fail edit makes false. Assumes nothing.
use Rattle.std.specs.Prelude.{ℕ, ◌+◌, ◌≡◌, Bool, true}
use Rattle.std.proofs.Common.{arith}
use Rattle.edf.specs.Demand.{TaskSet, Lawful}
use Rattle.edf.specs.State.{State, WellFormed}
use Rattle.edf.specs.Steps.{Arrive}
use Rattle.edf.specs.Mixed.{Watched, MixedSlack}
use Rattle.edf.proofs.MixedLaws.{mixed_arrive}

module _ (τ : TaskSet) (ok : Lawful τ) (brittle : ℕ → Bool) (s s' : State) where
  module _ (formed : WellFormed τ s) (k b : ℕ) (st : Arrive τ k b s s') where
    -- a job of a brittle row arrives, with none
    pub mixed_arrive_brittle : brittle k ≡ true → b ≡ 0 → MixedSlack τ brittle s → MixedSlack τ brittle s'
    mixed_arrive_brittle f z mx =
        let v : Watched τ brittle s (s.clock + τ.D k) = record { row = k; known = st.row; marked = f; by = omega arith } in
        (mixed_arrive τ ok brittle s s' formed k b st) (omega (arith, mx.watched (s.clock + τ.D k) v (omega arith))) mx
