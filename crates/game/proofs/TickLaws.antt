-- More laws of specs/Tick.antt: they rest on what a must-fail edit makes false. Assumes nothing.
use Rattle.std.specs.Prelude.{ℕ, ◌≡◌, Bool, true, false}
use Rattle.std.proofs.Math.Path.{refl}
use Rattle.std.proofs.Common.{sym, ◌∙◌}
use native.Mathlib.Omega.{arith}
use Rattle.bounded.specs.Sum.{sum_eq}
use Rattle.bounded.specs.Tests.{both}
use Rattle.edf.specs.Demand.{TaskSet, Lawful}
use Rattle.edf.specs.State.{row_load, load, WellFormed, Same}
use Rattle.edf.specs.Arrive.{Came, came_formed, kept_load, kept_formed}
use Rattle.edf.proofs.ArriveLaws.{came_load}
use Rattle.game.specs.Game.{Position, Legal, released}
use Rattle.game.specs.Tick.{state_of, waits_is}

-- ---- a release changes no load, and leaves jobs well formed

module _ (τ : TaskSet) (ok : Lawful τ) (p : Position) (formed : WellFormed τ (state_of p)) (r : ℕ → Bool) (legal : Legal τ r p) where
  abbrev after : Position
  after = released τ r p

  came : (i : ℕ) → r i ≡ true → Came τ i (state_of p) (state_of after)
  came i e =
      let l = legal i e in
      let left : after.left i ≡ τ.C i = simp e in
      record {
        row = l.0;
        ready = omega (arith, l.1);
        clock = refl;
        next = simp e;
        due = simp e;
        left = left;
        waits = waits_is after i (omega (arith, left, (ok i l.0).cost));
      }

  kept : (i : ℕ) → r i ≡ false → Same (state_of p) (state_of after) i
  kept i e = record { next = simp e; due = simp e; left = simp e; waits = simp e }

  pub released_load : (d : ℕ) → load τ (state_of after) d ≡ load τ (state_of p) d
  unfolding load
  released_load d =
      sum_eq (row_load τ (state_of after) d) (row_load τ (state_of p) d) τ.rows
      (λ i l. both (r i) (λ e. came_load τ ok (state_of p) (state_of after) formed i (came i e) d)
      (λ e. kept_load τ (state_of p) (state_of after) i (kept i e) refl d))

  pub released_formed : WellFormed τ (state_of after)
  released_formed i l w =
      both (r i) (λ e. came_formed τ ok (state_of p) (state_of after) formed i (came i e))
      (λ e.
      let k = kept i e in
      kept_formed τ (state_of p) (state_of after) i k refl (formed i l (sym k.waits ∙ w)))
