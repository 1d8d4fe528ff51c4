use Rattle.std.proofs.Common.{◌≡◌}
use Rattle.session.specs.Calls.{aged_job}
use Rattle.session.specs.Jobs.{done_to}
use Rattle.calls.proofs.advance.stepped.Given as goal

abbrev pub invariant-loop-i : goal.invariant-loop-i
invariant-loop-i l = (l.q ≡ done_to l.initial.q (aged_job l.initial.q l.n) l.i)
