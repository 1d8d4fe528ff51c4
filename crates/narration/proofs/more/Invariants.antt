use Rattle.std.proofs.Common.{length, ◌-◌}
use Rattle.narration.specs.Telling.{Telling}
use Rattle.narration.proofs.more.Given as goal

abbrev pub invariant-loop-t : goal.invariant-loop-t
invariant-loop-t l = Telling l.text l.initial.t l.initial.words l.initial.out l.t l.words l.out

abbrev pub decreases-loop-t : goal.decreases-loop-t
decreases-loop-t l = length l.text - l.t.at
