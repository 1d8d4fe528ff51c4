-- K equal stretches give 0 (docs/SPECIFICATION.md §10.3). Assumes nothing.
use Rattle.std.specs.Prelude.{ℕ, ◌+◌, ◌*◌, ◌%◌, ◌≤◌, ◌<◌, ◌≡◌, List}
use Rattle.std.proofs.Math.Path.{sym, ap}
use Rattle.std.proofs.Common.{◌∙◌, mod-lt, mod-eq_of_lt, arith}
use Rattle.std.proofs.Math.ListN.{get_or}
use Rattle.bounded.specs.Sum.{sum_zero}
use Rattle.meter.specs.declared.Shape.{Shape}
use Rattle.meter.specs.Log.{eighths_of}
use Rattle.meter.specs.Meter.{row_in, gap_at, stretch_of, meter_of}
use Rattle.meter.specs.Rule.{measured}
use Rattle.meter.specs.Alike.{differing_none, alike_all}
use Rattle.meter.specs.Entropy.{EqualNone}

module _ (a : List ℕ) (h : Shape) (some : 1 ≤ h.ticks) (equal : (k t : ℕ) → k < h.stretches → t < h.ticks → row_in a h k t ≡ row_in a h 0 t) where
  -- a tick counted around the end is one of the stretch
  row_around : (k t : ℕ) → row_in a h k t ≡ row_in a h k (t % h.ticks)
  unfolding row_in
  row_around k t = ap (λ (x : ℕ). get_or a (k * h.ticks + x) 0) (sym (mod-eq_of_lt (mod-lt t {m = h.ticks} (omega arith))))

  row_first : (k t : ℕ) → k < h.stretches → row_in a h k t ≡ row_in a h 0 (t % h.ticks)
  row_first k t l = row_around k t ∙ equal k (t % h.ticks) l (mod-lt t {m = h.ticks} (omega arith))

  gap_none : (k t : ℕ) → k < h.stretches → gap_at a h k t ≡ 0
  unfolding gap_at
  gap_none k t l =
      omega (arith, ap eighths_of (alike_all a h k t (λ j u. differing_none a h k j t (λ x. row_first k x l ∙ sym (row_first j x u)))))

  sum_none : meter_of a h ≡ 0
  unfolding meter_of stretch_of
  sum_none = sum_zero (stretch_of a h) h.stretches (λ k l. sum_zero (gap_at a h k) h.ticks (λ t u. gap_none k t l))

pub equal_none : EqualNone
equal_none a h x e equal =
    let m = measured a h x e in
    let f = m.0 in
    m.1 ∙ sum_none a h (omega (arith, f.window, f.within)) equal
