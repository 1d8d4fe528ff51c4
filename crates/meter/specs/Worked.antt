-- One schedule, measured by hand (docs/SPECIFICATION.md §10.4): the definition gives each of these answers. Assumes nothing.
use Rattle.std.specs.Prelude.{ℕ, ◌≡◌, refl, List, [], ◌∷◌, Result, Ok, Err}
use Rattle.bounded.specs.Tests.{gate}
use Rattle.bounded.specs.Least.{least_from}
use Rattle.bounded.specs.Sum.{sum_to}
use Rattle.meter.specs.declared.Shape.{Shape}
use Rattle.meter.specs.declared.BadShape.{BadShape}
use Rattle.meter.specs.Log.{eighths_of}
use Rattle.meter.specs.Meter.{differ_by, row_in, differs, differing, alike, gap_at, stretch_of, meter_of, fits, bad_shape, measure_of}

unfoldable pub schedule : List ℕ
schedule = 0 ∷ 0 ∷ 1 ∷ 2 ∷ 0 ∷ 1 ∷ 0 ∷ 2 ∷ 0 ∷ 0 ∷ 1 ∷ 2 ∷ []

pub record Case : Type 0 where
  pub shape : Shape
  pub answer : Result ℕ BadShape

abbrev case : ℕ → ℕ → ℕ → ℕ → Result ℕ BadShape → Case
case k l m x r = record { shape = record { stretches = k; ticks = l; window = m; threshold = x }; answer = r }

-- K, L, m, the threshold, and the answer
unfoldable pub cases : List Case
cases =
    case 3 4 1 0 (Ok 40)
    ∷ case 3 4 2 0 (Ok 60)
    ∷ case 3 4 2 1 (Ok 20)
    ∷ case 3 4 3 2 (Ok 0)
    -- around the end: 60 without
    ∷ case 3 4 4 0 (Ok 80)
    ∷ case 4 3 1 0 (Ok 124)
    ∷ case 1 12 5 0 (Ok 0)
    ∷ case 12 1 1 0 (Ok 144)
    ∷ case 0 12 1 0 (Err bad_shape)
    ∷ case 3 4 0 0 (Err bad_shape)
    ∷ case 3 4 5 0 (Err bad_shape)
    ∷ case 3 3 1 0 (Err bad_shape)
    ∷ []

abbrev pub Answers : List Case → Type 0
Answers [] = Unit
Answers (c ∷ l) = (measure_of schedule c.shape ≡ c.answer) × Answers l

pub worked : Answers cases
unfolding cases schedule measure_of fits meter_of stretch_of gap_at alike differing differs differ_by row_in eighths_of least_from sum_to gate
worked = (refl, (refl, (refl, (refl, (refl, (refl, (refl, (refl, (refl, (refl, (refl, (refl, tt))))))))))))
