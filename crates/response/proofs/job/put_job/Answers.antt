use Rattle.response.specs.Put.{job_laws}
use borrow.Author.Rules.{rules}
use Rattle.response.proofs.job.put_job.Goals as goal

pub overflow_add-bound : goal.overflow_add-bound
overflow_add-bound c = search (rules, job_laws)

pub overflow_add-bound-2 : goal.overflow_add-bound-2
overflow_add-bound-2 c = search (rules, job_laws)

pub returns : goal.returns
returns c = search (rules, job_laws)
