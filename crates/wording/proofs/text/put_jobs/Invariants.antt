use Rattle.wording.specs.Write.{Listed}
use Rattle.wording.proofs.text.put_jobs.Given as goal

abbrev pub invariant-loop-j : goal.invariant-loop-j
invariant-loop-j l = Listed l.jobs l.initial.out l.initial.e l.j-index l.out l.e
