use Rattle.std.proofs.Common.{drop}
use Rattle.reader.specs.Took.{Took, jobs_at}
use Rattle.reader.proofs.parts.read_jobs.Given as goal

abbrev pub invariant-loop-i : goal.invariant-loop-i
invariant-loop-i l = Took (jobs_at l.i (drop l.at l.text)) l.text l.jobs l.e
