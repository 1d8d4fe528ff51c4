-- The search for a tick whose demand exceeds it (docs/SPECIFICATION.md §3.1). Assumes nothing.
use Rattle.std.specs.Prelude.{ℕ, ◌+◌, ◌-◌, ◌≤◌, ◌<◌, min, ◌≡◌, Option, Some, None}
use Rattle.std.proofs.Math.Logic.{dite}
use Rattle.std.proofs.Common.{arith}
use Rattle.std.proofs.Math.Decide.{dec_le, dec_lt}
use Rattle.edf.specs.Demand.{TaskSet, demand}
use Rattle.edf.proofs.DemandLaws.{quick_search}
use Rattle.table.specs.declared.overload.Found.{Found}
use Rattle.table.specs.declared.first.Counted.{Counted}
use Rattle.table.specs.Rows.{Fit, fit_lawful}
use Rattle.bounded.specs.Within.{Within}
use Rattle.table.specs.Drop.{Lower}

-- c names a tick of the range that is exceeded, with its demand, and no tick from there to the end was summed up twice
pub record Exceeds (τ : TaskSet) (floor end : ℕ) (c : Counted) : Type 0 where
  pub low : floor < c.found.at
  pub high : c.found.at ≤ end
  pub is : c.found.demand ≡ demand τ c.found.at
  pub over : c.found.at < c.found.demand
  pub counted : c.sums + c.found.at ≤ end + 1

-- such a tick is found by n sums; or nothing, and then none is exceeded
pub data Searched (τ : TaskSet) (floor end : ℕ) : Option Found → ℕ → Type 0 where
  over : {f : Found} {n : ℕ} → Exceeds τ floor end (record { found = f; sums = n }) → Searched τ floor end (Some f) n
  none : {n : ℕ} → n ≤ end - floor → ((x : ℕ) → floor < x → x ≤ end → demand τ x ≤ x) → Searched τ floor end None n

-- no tick after t, up to end, is exceeded; n sums were made so far, each while t stood above the floor
pub record Clear (τ : TaskSet) (floor end t n : ℕ) : Type 0 where
  pub low : t ≤ end
  pub counted : n + t ≤ end
  pub above : n ≤ end - floor
  pub clear : (x : ℕ) → t < x → x ≤ end → demand τ x ≤ x

pub clear_start : (τ : TaskSet) (floor end : ℕ) → Clear τ floor end end 0
clear_start τ floor end = record { low = omega arith; counted = omega arith; above = omega arith; clear = λ x l h. absurd (omega arith) }

module _ (τ : TaskSet) (fit : Fit τ) (floor end t n h : ℕ) (c : Clear τ floor end t n) (w : Within 16000000000000 (demand τ t) h) where
  -- no tick from the demand of t up to t is exceeded, and none between there and the next tick to look at
  pub clear_next : (u : ℕ) → floor < t → h ≤ t → Lower τ t h u → Clear τ floor end u (n + 1)
  clear_next u l k g = record {
    low = omega (arith, c.low, g.less);
    counted = omega (arith, c.counted, g.less);
    above = omega (arith, c.counted);
    clear = λ x p q. dite (dec_le x t)
        (λ m. dite (dec_lt x h)
        (λ o. g.clear x p o)
        (λ o. quick_search τ (fit_lawful τ fit) t x (omega (arith, w.is)) m))
        (λ m. c.clear x (omega arith) q);
  }

  pub clear_falls : (u : ℕ) → floor < t → h ≤ t → Lower τ t h u → u < t
  clear_falls u l k g = omega (arith, g.less)

  pub clear_over : floor < t → t < h → Searched τ floor end (Some (record { at = t; demand = h })) (n + 1)
  clear_over l k = over record { low = l; high = c.low; is = w.is; over = k; counted = omega (arith, c.counted) }

pub clear_end : (τ : TaskSet) (floor end t n : ℕ) → Clear τ floor end t n → t ≤ floor → Searched τ floor end None n
clear_end τ floor end t n c z = none c.above (λ x l h. c.clear x (omega arith) h)

-- what was found up to the end of the compared range
pub found_exceeds : (τ : TaskSet) (end y n : ℕ) (f : Found) → Searched τ 0 end (Some f) n → end ≡ min y 1000000
    → Exceeds τ 0 1000000 (record { found = f; sums = n })
found_exceeds τ end y n f (over e) m =
    record { low = e.low; high = omega (arith, e.high); is = e.is; over = e.over; counted = omega (arith, e.counted) }
