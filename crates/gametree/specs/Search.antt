-- The search, over boards of 3 slots (docs/SPECIFICATION.md §13.2). Definitions only. Assumes nothing.
use Rattle.std.specs.Prelude.{ℕ, zero, suc, ◌+◌, ◌-◌, Bool, true, false, not, ◌&&◌, ◌||◌, cond, leb, ltb, get_or, set}
use Rattle.bounded.specs.All.{all_to}
use Rattle.edf.specs.Demand.{TaskSet}
use Rattle.gametree.specs.declared.board.Slot.{Slot}
use Rattle.gametree.specs.declared.board.Board.{Board}

abbrev pub slot_at : Board → ℕ → Slot
slot_at p i = get_or p.slots i (record { next = 0; due = 0; left = 0 })

-- arrivals release a job of row i
unfoldable pub released_of : TaskSet → Board → ℕ → Board
released_of τ p i =
    record { clock = p.clock; slots = set p.slots i (record { next = p.clock + τ.T i; due = p.clock + τ.D i; left = τ.C i }) }

-- the scheduler gives the tick to row m, or to none where m is 3
unfoldable pub played_of : Board → ℕ → Board
played_of p m = record {
  clock = p.clock + 1;
  slots = cond (ltb m 3)
      (set p.slots m (record { next = (slot_at p m).next; due = (slot_at p m).due; left = (slot_at p m).left - 1 }))
      p.slots;
}

unfoldable pub may_of : Board → ℕ → Bool
may_of p m = cond (ltb m 3) (ltb 0 (slot_at p m).left) true

-- a job is unfinished at its deadline
abbrev pub late_by : Slot → ℕ → Bool
late_by j clock = ltb 0 j.left && leb j.due clock

unfoldable pub missed_of : Board → Bool
missed_of p = not (all_to (λ i. not (late_by (slot_at p i) p.clock)) 3)

-- arrivals decide of each row below k whether to release a job of it; then f
unfoldable pub some_of : TaskSet → (Board → Bool) → ℕ → Board → Bool
some_of τ f zero p = f p
some_of τ f (suc k) p = (leb (slot_at p k).next p.clock && some_of τ f k (released_of τ p k)) || some_of τ f k p

-- move m is none of the scheduler's, or leaves a job unfinished at its deadline, or is followed by g
abbrev pub lost_by : (Board → Bool) → Board → ℕ → Bool
lost_by g p m = not (may_of p m) || (missed_of (played_of p m) || g (played_of p m))

-- whether arrivals can force a job unfinished at its deadline within so many ticks
unfoldable pub forced_of : TaskSet → ℕ → Board → Bool
forced_of τ zero p = false
forced_of τ (suc t) p = some_of τ (λ q. all_to (lost_by (λ r. forced_of τ t r) q) 4) τ.rows p
