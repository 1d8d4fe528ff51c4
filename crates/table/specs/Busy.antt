-- The busy length of a table (docs/SPECIFICATION.md §2.4), and the loop that finds it. Assumes nothing.
use Rattle.std.specs.Prelude.{ℕ, ◌+◌, ◌≤◌, ◌<◌, ◌≡◌, true, false, Option, Some, None, is_none, IfSome}
use Rattle.std.proofs.Common.{⊎_elim, sym, true≢false, arith}
use Rattle.bounded.specs.Fixed.{least_fixed, Climbing, climb_start, climb_far, climb_more, climb_least, climb_past}
use Rattle.edf.specs.Demand.{TaskSet, request, request_mono, request_pos}
use Rattle.table.specs.declared.busy.Busy.{Busy}
use Rattle.table.specs.Rows.{horizon, Fit, fit_lawful}
use Rattle.bounded.specs.Within.{Within}
use Rattle.table.specs.Leap.{Leap, Further}

-- the least r ≥ 1 that equals the sum over all rows of C times (r divided by T, rounded up); 1,000,001 where there is none
-- up to 1,000,000
unfoldable pub busy_length : TaskSet → ℕ
busy_length τ = least_fixed (request τ) horizon

-- the number for a length, if there is one: else 1,000,001
abbrev pub or_past : Option ℕ → ℕ
or_past (Some r) = r
or_past None = 1000001

pub record Settled (τ : TaskSet) (b : Busy) : Type 0 where
  pub is : or_past b.length ≡ busy_length τ
  pub within : IfSome b.length (λ r. r ≤ horizon)
  pub sums : b.sums ≤ 1000000

-- what the length, or its lack, says
module _ (τ : TaskSet) (b : Busy) where
  pub length_some : Settled τ b → is_none b.length ≡ false → busy_length τ ≤ horizon
  length_some s = by b.length s.is s.within
    where
      by : (o : Option ℕ) → or_past o ≡ busy_length τ → IfSome o (λ r. r ≤ horizon) → is_none o ≡ false → busy_length τ ≤ horizon
      by (Some r) e l h = omega (arith, e)
      by None e l h = absurd (true≢false h)

  pub length_none : Settled τ b → is_none b.length ≡ true → horizon < busy_length τ
  length_none s = by b.length s.is
    where
      by : (o : Option ℕ) → or_past o ≡ busy_length τ → is_none o ≡ true → horizon < busy_length τ
      by (Some r) e h = absurd (true≢false (sym h))
      by None e h = omega (arith, e)

-- ---- the loop: r climbs, one sum a turn

pub record Turn (τ : TaskSet) (r n : ℕ) : Type 0 where
  pub climbs : Climbing (request τ) horizon r
  pub counted : n < r

module _ (τ : TaskSet) (fit : Fit τ) where
  pub busy_start : Turn τ 1 0
  busy_start = record {
    climbs = climb_start (request τ) horizon (omega arith) (request_pos τ (fit_lawful τ fit) fit.some);
    counted = omega arith;
  }

  module _ (r n x : ℕ) (t : Turn τ r n) (w : Within 16000000000000 (request τ r) x) where
    far : (y : ℕ) → Further τ r x y → (q : ℕ) → r ≤ q → request τ q ≡ q → y ≤ q
    far y g q l e =
        ⊎_elim (λ z. omega (arith, w.is, request_mono τ (fit_lawful τ fit) r q l)) (λ (b : Leap τ r y). b.under q l (omega (arith, e))) g.leap

    rises : (y : ℕ) → Further τ r x y → r ≤ y → y ≤ horizon → y ≤ request τ y
    rises y g l h =
        ⊎_elim
        (λ z.
        let m : request τ r ≤ request τ y = request_mono τ (fit_lawful τ fit) r y l in
        omega (arith, w.is))
        (λ (b : Leap τ r y). b.up l h) g.leap

    pub busy_above : (x ≡ r → ⊥) → r < x
    busy_above ne = climb_more (request τ) horizon r x t.climbs w.is ne

    pub busy_next : (y : ℕ) → (x ≡ r → ⊥) → Further τ r x y → y ≤ horizon → Turn τ y (n + 1)
    busy_next y ne g h = record {
      climbs = climb_far (request τ) horizon r x y t.climbs w.is g.more (far y g) (rises y g) h;
      counted = omega (arith, t.counted, busy_above ne, g.more);
    }

    pub busy_more : (y : ℕ) → (x ≡ r → ⊥) → Further τ r x y → r < y
    busy_more y ne g = omega (arith, busy_above ne, g.more)

    pub busy_found : x ≡ r → Settled τ (record { length = Some r; sums = n + 1 })
    unfolding busy_length
    busy_found e = record {
      is = climb_least (request τ) horizon r x t.climbs w.is e;
      within = t.climbs.high;
      sums = omega (arith, t.climbs.high);
    }

    pub busy_passed : (y : ℕ) → Further τ r x y → horizon < y → Settled τ (record { length = None; sums = n + 1 })
    unfolding busy_length
    busy_passed y g h = record {
      is = climb_past (request τ) horizon r y t.climbs (far y g) h;
      within = tt;
      sums = omega (arith, t.climbs.high);
    }

pub ruleset busy_laws = (busy_start, busy_above, busy_next, busy_more, busy_found, busy_passed)
