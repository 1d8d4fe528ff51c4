-- How mixed a schedule is (docs/SPECIFICATION.md §10.1). Assumes nothing. Definitions only.
use Rattle.std.specs.Prelude.{ℕ, ◌+◌, ◌-◌, ◌*◌, ◌%◌, Bool, not, ◌&&◌, cond, List, leb, eqb, length, get_or, Result, Ok, Err}
use Rattle.bounded.specs.Tests.{gate}
use Rattle.bounded.specs.Sum.{sum_to}
use Rattle.meter.specs.Log.{eighths_of}
use Rattle.meter.specs.declared.Shape.{Shape}
use Rattle.meter.specs.declared.BadShape.{BadShape}

-- 1 where two rows differ
unfoldable pub differ_by : ℕ → ℕ → ℕ
differ_by x y = gate (not (eqb x y)) 1

-- The stretches stand one after another in a list, a row number per tick.
module _ (a : List ℕ) (h : Shape) where
  -- the row of stretch k in tick t, counted around the stretch's end
  unfoldable pub row_in : ℕ → ℕ → ℕ
  row_in k t = get_or a (k * h.ticks + t % h.ticks) 0

  -- 1 where stretches k and j have different rows in tick t
  unfoldable pub differs : ℕ → ℕ → ℕ → ℕ
  differs k j t = differ_by (row_in k t) (row_in j t)

  -- in how many ticks their intervals from t on differ (the Hamming distance)
  unfoldable pub differing : ℕ → ℕ → ℕ → ℕ
  differing k j t = sum_to (λ x. differs k j (t + x)) h.window

  -- c: how many of the stretches, k itself among them, have from t on an interval that differs in at most the threshold
  unfoldable pub alike : ℕ → ℕ → ℕ
  alike k t = sum_to (λ j. gate (leb (differing k j t) h.threshold) 1) h.stretches

  -- g(K) - g(c)
  unfoldable pub gap_at : ℕ → ℕ → ℕ
  gap_at k t = eighths_of h.stretches - eighths_of (alike k t)

  -- over each tick of a stretch
  unfoldable pub stretch_of : ℕ → ℕ
  stretch_of k = sum_to (gap_at k) h.ticks

  -- over each stretch
  unfoldable pub meter_of : ℕ
  meter_of = sum_to stretch_of h.stretches

-- K is 1 to 255, m is 1 to L, and K × L is at most 16,384 and the length of the list
unfoldable pub fits : List ℕ → Shape → Bool
fits a h =
    leb 1 h.stretches && leb h.stretches 255 && leb 1 h.window && leb h.window h.ticks
    && leb (h.stretches * h.ticks) 16384 && eqb (length a) (h.stretches * h.ticks)

abbrev pub bad_shape : BadShape
bad_shape = record {}

-- the meter, or 14 where the rule is broken
unfoldable pub measure_of : List ℕ → Shape → Result ℕ BadShape
measure_of a h = cond (fits a h) (Ok (meter_of a h)) (Err bad_shape)
