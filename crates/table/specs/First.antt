-- The search for the first tick whose demand exceeds it (docs/SPECIFICATION.md §3.1). Assumes nothing.
use Rattle.std.specs.Prelude.{ℕ, ◌+◌, ◌-◌, ◌/◌, ◌≤◌, ◌<◌, ◌≡◌, Option, Some, None}
use Rattle.std.proofs.Math.Logic.{dite}
use Rattle.std.proofs.Common.{arith}
use Rattle.std.proofs.Math.Decide.{dec_le}
use Rattle.edf.specs.Demand.{TaskSet, demand}
use Rattle.table.specs.declared.overload.Found.{Found}
use Rattle.table.specs.declared.first.Counted.{Counted}
use Rattle.table.specs.declared.first.Range.{Range}
use Rattle.table.specs.Overload.{Exceeds, Searched, over, none}

-- f names the first tick that is exceeded, at or before the one that g names, and no tick up to that one was summed up twice
pub record First (τ : TaskSet) (g f : Counted) : Type 0 where
  pub low : 1 ≤ f.found.at
  pub high : f.found.at ≤ g.found.at
  pub is : f.found.demand ≡ demand τ f.found.at
  pub over : f.found.at < f.found.demand
  pub before : (x : ℕ) → 1 ≤ x → x < f.found.at → demand τ x ≤ x
  pub counted : f.sums < g.sums + g.found.at

-- what holds while the range is halved
pub record Narrow (τ : TaskSet) (g : Counted) (r : Range) : Type 0 where
  pub low : r.floor < r.found.at
  pub high : r.found.at ≤ g.found.at
  pub is : r.found.demand ≡ demand τ r.found.at
  pub over : r.found.at < r.found.demand
  pub clear : (x : ℕ) → 1 ≤ x → x ≤ r.floor → demand τ x ≤ x
  pub counted : r.sums + (r.found.at - r.floor) ≤ g.sums + g.found.at

-- the floor rises to the middle where nothing was found up to there; else what was found is nearer to the first
abbrev pub narrow_by : Range → ℕ → Option Found → ℕ → Range
narrow_by r middle None n = record { floor = middle; found = r.found; sums = r.sums + n }
narrow_by r middle (Some f) n = record { floor = r.floor; found = f; sums = r.sums + n }

pub narrow_start : (τ : TaskSet) (g : Counted) → Exceeds τ 0 1000000 g
    → Narrow τ g (record { floor = 0; found = g.found; sums = g.sums })
narrow_start τ g e = record {
  low = e.low;
  high = omega arith;
  is = e.is;
  over = e.over;
  clear = λ x l h. absurd (omega arith);
  counted = omega arith;
}

module _ (τ : TaskSet) (g : Counted) (middle : ℕ) (r : Range) (n : Narrow τ g r) (more : r.floor + 1 < r.found.at)
    (m : middle ≡ r.floor + (r.found.at - r.floor) / 2) where
  within : (r.floor < middle) × (middle < r.found.at)
  within = (omega arith, omega arith)

  pub narrow_middle : Exceeds τ 0 1000000 g → middle ≤ 1000000
  narrow_middle e = omega (arith, within, n.high, e.high)

  module _ (o : Option Found) (k : ℕ) (s : Searched τ r.floor middle o k) where
    pub narrow_sums : Exceeds τ 0 1000000 g → k ≤ 1000000
    narrow_sums e = by s
      where
        by : {o : Option Found} → Searched τ r.floor middle o k → k ≤ 1000000
        by (over x) = omega (arith, x.counted, x.low, narrow_middle e)
        by (none c h) = omega (arith, c, narrow_middle e)

    -- the range is still one, and shorter
    next : Narrow τ g (narrow_by r middle o k) × ((narrow_by r middle o k).found.at - (narrow_by r middle o k).floor < r.found.at - r.floor)
    next = by s
      where
        by : {o : Option Found} → Searched τ r.floor middle o k
            → Narrow τ g (narrow_by r middle o k) × ((narrow_by r middle o k).found.at - (narrow_by r middle o k).floor < r.found.at - r.floor)
        by (none c h) = (
          record {
            low = within.1;
            high = n.high;
            is = n.is;
            over = n.over;
            clear = λ x p q. dite (dec_le x r.floor) (λ v. n.clear x p v) (λ v. h x (omega arith) q);
            counted = omega (arith, within, n.counted, c);
          },
          omega (arith, within),
        )
        by (over x) = (
          record {
            low = x.low;
            high = omega (arith, within, x.high, n.high);
            is = x.is;
            over = x.over;
            clear = n.clear;
            counted = omega (arith, within, n.counted, x.counted, x.low);
          },
          omega (arith, within, x.high),
        )

    pub narrow_next : (q : Range) → q ≡ narrow_by r middle o k → Narrow τ g q
    narrow_next q e = rw e next.0

    pub narrow_less : (q : Range) → q ≡ narrow_by r middle o k → q.found.at - q.floor < r.found.at - r.floor
    narrow_less q e = rw e next.1

pub first_is : (τ : TaskSet) (g : Counted) (r : Range) → Narrow τ g r → r.found.at ≤ r.floor + 1
    → First τ g (record { found = r.found; sums = r.sums })
first_is τ g r n h = record {
  low = omega (arith, n.low);
  high = n.high;
  is = n.is;
  over = n.over;
  before = λ x l k. n.clear x l (omega arith);
  counted = omega (arith, n.counted, n.low);
}

pub ruleset narrow_laws = (narrow_start, narrow_middle, narrow_sums, narrow_next, narrow_less, first_is)
