use Rattle.std.proofs.Common.{length, ◌-◌}
use Rattle.transcript.specs.Plays.{Playing}
use Rattle.transcript.proofs.play.play.Given as goal

abbrev pub invariant-loop-at : goal.invariant-loop-at
invariant-loop-at l = Playing l.text l.start l.initial.s l.initial.p l.initial.out l.s l.p l.words l.out l.at

abbrev pub decreases-loop-at : goal.decreases-loop-at
decreases-loop-at l = length l.text - l.at
