-- The meter's answer in numbers (docs/SPECIFICATION.md §9). Assumes nothing.
use Rattle.std.specs.Prelude.{ℕ, Result, Ok, Err}
use Rattle.meter.specs.declared.Shape.{Shape}
use Rattle.meter.specs.declared.BadShape.{BadShape}
use Rattle.host.specs.declared.Reply.{Reply}

-- 14 where the input breaks its rule
abbrev pub meter_reply : Result ℕ BadShape → Reply
meter_reply (Ok n) = record { number = 0; used = 0; first = n; second = 0 }
meter_reply (Err e) = record { number = 14; used = 0; first = 0; second = 0 }

abbrev pub shape_of : ℕ → ℕ → ℕ → ℕ → Shape
shape_of k l m x = record { stretches = k; ticks = l; window = m; threshold = x }
