use Rattle.reader.specs.Code.{job_is}
use borrow.Author.Rules.{rules}
use Rattle.reader.proofs.parts.read_job.Goals as goal

pub returns : goal.returns
returns c = search (rules, job_is)
