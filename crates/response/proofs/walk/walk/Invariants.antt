use Rattle.std.proofs.Common.{length, ◌-◌}
use Rattle.response.specs.Walk.{Walking}
use Rattle.response.proofs.walk.walk.Given as goal

abbrev pub invariant-loop-at : goal.invariant-loop-at
invariant-loop-at l = Walking l.text l.table l.start l.initial.s l.initial.p l.initial.out l.analysis.spans.now l.s l.p l.counts l.words l.out l.at

abbrev pub decreases-loop-at : goal.decreases-loop-at
decreases-loop-at l = length l.text - l.at
