-- A choice keeps a session good (docs/SPECIFICATION.md §5.4). Assumes nothing.
use Rattle.std.specs.Prelude.{ℕ, ◌≤◌, ◌<◌, ◌≡◌, not, List, ◌⊎◌, drop}
use Rattle.std.proofs.Math.Logic.{inl, inr}
use Rattle.std.proofs.Common.{arith, eq-eqb, ne_eqb, ltb-true}
use Rattle.bounded.specs.Tests.{both, and-true}
use Rattle.table.specs.Rows.{horizon}
use Rattle.session.specs.declared.Session.{Session}
use Rattle.session.specs.Reading.{idle, job_at, rows_of, tasks, waits, ahead, state_of}
use Rattle.session.specs.Choose.{draw, pick_of, pick_used, room, unopposed, length_drawn, span_of}
use Rattle.session.specs.Calls.{changed}
use Rattle.session.specs.Facts.{Running}
use Rattle.session.specs.Brittle.{loose_rows}
use Rattle.guarantee.specs.Good.{Apt, Good}
use Rattle.guarantee.specs.KeepsStep.{good_facts, good_bounds, good_changed}
use Rattle.guarantee.specs.KeepsPick.{May, pick_may}
use Rattle.guarantee.specs.KeepsApt.{pick_apt}
use Rattle.guarantee.specs.Room.{most, room_lesser, may_room}

-- the span is between 1 and room
span_le : (s : Session) (w : List ℕ) (u c : ℕ) → 1 ≤ room s c → span_of s w u c ≤ room s c
unfolding span_of length_drawn
span_le s w u c h =
    both (length_drawn s w u c)
    (λ e.
    let less = ltb-true (draw (drop u w) (room s c)) (room s c) (and-true (not (unopposed s c)) _ e).1 in
    simp e (omega (arith, less)))
    (λ e. simp e (omega arith))

span_some : (s : Session) (w : List ℕ) (u c : ℕ) → 1 ≤ room s c → 1 ≤ span_of s w u c
unfolding span_of
span_some s w u c h = both (length_drawn s w u c) (λ e. simp e (omega arith)) (λ e. simp e h)

-- ---- the choice

module _ (s : Session) (g : Good (rows_of s) s) (c : ℕ) (may : May s c 1) where
  -- idle has 1,000,000 ticks, and a row its remaining ticks, which are no more
  most_le : (c ≡ idle) ⊎ Running (changed s s.clock s.jobs c 1) → most s c ≤ horizon
  unfolding waits
  most_le (inl e) = simp (eq-eqb c idle e) (omega arith)
  most_le (inr r) =
      let f = good_facts s g in
      let l : c < (tasks s).rows = omega (arith, r.known, g.count) in
      simp (ne_eqb c idle (λ e. omega (arith, r.known, f.few)))
      (omega (arith, f.job c r.known r.waiting, g.fit.row c l))

  runs_for : (n : ℕ) → n ≤ most s c → (c ≡ idle) ⊎ Running (changed s s.clock s.jobs c 1)
      → (c ≡ idle) ⊎ Running (changed s s.clock s.jobs c n)
  unfolding waits
  runs_for n h (inl e) = inl e
  runs_for n h (inr r) =
      let k : n ≤ (job_at s c).left = simp (ne_eqb c idle (λ e. omega (arith, r.known, (good_facts s g).few))) at h in
      inr (record { known = r.known; waiting = r.waiting; within = k })

  span_may : (w : List ℕ) (u : ℕ) → May s c (span_of s w u c)
  unfolding ahead waits
  span_may w u =
      let r = room_lesser s c in
      let one = may_room s (good_facts s g).few c may in
      let h = span_le s w u c one in
      record {
        some = span_some s w u c one;
        small = omega (arith, r.most, most_le may.runs);
        runs = runs_for (span_of s w u c) (omega (arith, r.most)) may.runs;
        affords = λ j l a. omega (arith, r.each j l a);
      }

-- the jobs and the clock stay
choose_good : (s : Session) → Good (rows_of s) s → (c n : ℕ) → Apt (tasks s) (state_of s) c → May s c n
    → Good (rows_of s) (changed s s.clock s.jobs c n)
unfolding waits
choose_good s g c n apt may =
    good_changed s g s.clock s.jobs c n g.places (good_facts s g).clock g.safe (λ l. apt)
    (λ i l. let b = good_bounds s g i l in record { next = b.next; budget = b.budget })
    (inr may)

pub good_choose : (s : Session) → Good (rows_of s) s → (w : List ℕ)
    → Good (rows_of s) (changed s s.clock s.jobs (pick_of s w) (span_of s w (pick_used s w) (pick_of s w)))
good_choose s g w =
    choose_good s g (pick_of s w) _ (pick_apt s (good_facts s g).few g.count (loose_rows s (good_facts s g)) w)
    (span_may s g (pick_of s w) (pick_may s (good_facts s g).few w) w (pick_used s w))
