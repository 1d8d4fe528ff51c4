use Rattle.std.proofs.Common.{◌-◌}
use Rattle.workload.specs.Play.{Playing}
use Rattle.workload.proofs.play.put_calls.Given as goal

abbrev pub invariant-loop : goal.invariant-loop
invariant-loop l = Playing l.seed l.start l.initial.out l.s l.p l.words l.out l.end (500 - l.counter)
