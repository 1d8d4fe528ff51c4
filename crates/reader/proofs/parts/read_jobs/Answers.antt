use borrow.Author.Rules.{rules}
use Rattle.reader.specs.Code.{jobs_start, jobs_next}
use Rattle.reader.proofs.parts.read_jobs.Goals as goal

pub loop-i-init : goal.loop-i-init
loop-i-init c = search (rules, jobs_start)

pub loop-i-preserved : goal.loop-i-preserved
loop-i-preserved c =
    jobs_next _ _ _ _ _ _ _ (search rules) c.loop-i.invariant c.read_job-job.ensures
