use Rattle.meter.specs.Code.{Summing}
use Rattle.meter.proofs.Schedule.stretch.Given as goal

abbrev pub invariant-loop-t : goal.invariant-loop-t
invariant-loop-t l = Summing l.self.rows.now l.self.shape l.k l.t l.sum l.counts
