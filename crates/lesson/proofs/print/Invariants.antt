use Rattle.std.proofs.Common.{length, ◌-◌}
use Rattle.lesson.specs.Entry.{Reading}
use Rattle.lesson.proofs.print.Given as goal

abbrev pub invariant-loop-at : goal.invariant-loop-at
invariant-loop-at l = Reading l.text l.initial.out l.p l.words l.out l.at

abbrev pub decreases-loop-at : goal.decreases-loop-at
decreases-loop-at l = length l.text - l.at
