use borrow.Author.Rules.{rules}
use Rattle.wording.specs.Write.{job_is}
use Rattle.wording.proofs.text.put_job.Goals as goal

pub returns : goal.returns
returns c = search (rules, job_is)
