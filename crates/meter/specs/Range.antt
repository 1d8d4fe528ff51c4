-- How small and how large the meter can be (docs/SPECIFICATION.md §10.3). Assumes nothing.
use Rattle.std.specs.Prelude.{ℕ, ◌*◌, ◌≤◌, ◌<◌, ◌≡◌, List}
use Rattle.std.proofs.Math.Path.{ap}
use Rattle.std.proofs.Common.{◌∙◌}
use native.Mathlib.Omega.{arith}
use Rattle.bounded.specs.Sum.{sum_to, sum_le, sum_eq, sum_const}
use Rattle.meter.specs.declared.Shape.{Shape}
use Rattle.meter.specs.Log.{eighths_of, eighths_rule, eighths_is, eighths_mono, eighths_first}
use Rattle.meter.specs.Meter.{alike, gap_at, stretch_of, meter_of}
use Rattle.meter.specs.Rule.{measured}
use Rattle.meter.specs.Alike.{alike_some, alike_few}
use Rattle.meter.specs.Entropy.{Logarithm, Counted, Most, MostReached}

pub logarithm : Logarithm
logarithm n some few = (eighths_rule n some few, λ r e. eighths_is n r some few e)

pub counted : Counted
counted a h x e k t l =
    let f = (measured a h x e).0 in
    let one = alike_some a h k t l in
    let most = alike_few a h k t in
    (one, most, eighths_mono (alike a h k t) h.stretches one most f.few)

module _ (a : List ℕ) (h : Shape) where
  abbrev top : ℕ
  top = eighths_of h.stretches

  -- the sum of one number over each tick of each stretch
  all_same : sum_to (λ k. sum_to (λ t. top) h.ticks) h.stretches ≡ h.stretches * h.ticks * top
  all_same =
      sum_eq (λ k. sum_to (λ t. top) h.ticks) (λ k. top * h.ticks) h.stretches (λ k l. sum_const top h.ticks)
      ∙ sum_const (top * h.ticks) h.stretches
      ∙ omega arith

  at_most : meter_of a h ≤ h.stretches * h.ticks * top
  unfolding meter_of stretch_of gap_at
  at_most =
      omega (
        arith,
        all_same,
        sum_le (stretch_of a h) (λ k. sum_to (λ t. top) h.ticks) h.stretches
            (λ k l. sum_le (gap_at a h k) (λ t. top) h.ticks (λ t u. omega arith)),
      )

  reached : ((k t : ℕ) → k < h.stretches → t < h.ticks → alike a h k t ≡ 1) → meter_of a h ≡ h.stretches * h.ticks * top
  unfolding meter_of stretch_of gap_at
  reached alone =
      sum_eq (stretch_of a h) (λ k. sum_to (λ t. top) h.ticks) h.stretches
      (λ k l. sum_eq (gap_at a h k) (λ t. top) h.ticks (λ t u. omega (arith, ap eighths_of (alone k t l u), eighths_first)))
      ∙ all_same

pub most : Most
most a h x e = omega (arith, (measured a h x e).1, at_most a h)

pub most_reached : MostReached
most_reached a h x e alone = (measured a h x e).1 ∙ reached a h alone
