-- The session and the list are those of the records before place i, and what is known of the first session is known of this one.
use Rattle.std.proofs.Common.{◌≡◌}
use Rattle.bounded.specs.Fold.{fold_to}
use Rattle.batch.specs.Walk.{Known, turn}
use Rattle.batch.proofs.arrive_all.Given as goal

abbrev pub invariant-loop-i : goal.invariant-loop-i
invariant-loop-i l = ((l.t, l.list) ≡ fold_to turn (l.fn.s, l.initial.list) l.i) × Known l.t l.shared
