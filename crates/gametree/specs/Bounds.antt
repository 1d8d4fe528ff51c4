-- What keeps the search's sums from wrapping and its indices in range. Assumes nothing.
use Rattle.std.specs.Prelude.{ℕ, ◌+◌, ◌-◌, ◌*◌, ◌%◌, ◌≤◌, ◌≡◌, List, length}
use native.Mathlib.Omega.{arith}
use Rattle.edf.specs.Demand.{TaskSet}
use Rattle.table.specs.Rows.{tasks_of, first_broken_lem, Fit, fit_of}

-- up to 3 rows that keep their rule, and no clock past 12 where these ticks are played
pub record Playing (τ : TaskSet) (clock ticks : ℕ) : Type 0 where
  pub fit : Fit τ
  pub few : τ.rows ≤ 3
  pub short : clock + ticks ≤ 12

-- a tick later
pub playing_next : (τ : TaskSet) (clock next ticks : ℕ) → Playing τ clock ticks → 1 ≤ ticks → next ≡ clock + 1 → Playing τ next (ticks - 1)
playing_next τ clock next ticks p h e = record { fit = p.fit; few = p.few; short = omega (arith, p.short) }

-- at the same clock
pub playing_now : (τ : TaskSet) (clock ticks : ℕ) → Playing τ clock ticks → Playing τ clock 0
playing_now τ clock ticks p = record { fit = p.fit; few = p.few; short = omega (arith, p.short) }

pub playing_same : (τ : TaskSet) (clock next ticks : ℕ) → Playing τ clock ticks → next ≡ clock → Playing τ next ticks
playing_same τ clock next ticks p e = record { fit = p.fit; few = p.few; short = omega (arith, p.short) }

pub ruleset playing_laws = (playing_next, playing_now, playing_same)

-- the entry's tests
pub playing_start : (l : List ℕ) (n : ℕ) → (length l ≡ 0 → ⊥) → length l ≤ 9 → length l % 3 ≡ 0 → n ≤ 12
    → (tasks_of l).rows ≤ first_broken_lem (tasks_of l) → Playing (tasks_of l) 0 n
playing_start l n a b c d g = record { fit = fit_of (tasks_of l) (rows_some l a c) (rows_few l 16 (omega arith)) g; few = rows_few l 3 b; short = omega arith }
  where
    rows_some : (l : List ℕ) → (length l ≡ 0 → ⊥) → length l % 3 ≡ 0 → 1 ≤ (tasks_of l).rows
    rows_some l a c = unfold tasks_of in omega arith

    rows_few : (l : List ℕ) (k : ℕ) → length l ≤ 3 * k → (tasks_of l).rows ≤ k
    rows_few l k b = unfold tasks_of in omega arith
