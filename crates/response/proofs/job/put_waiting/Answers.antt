use Rattle.response.specs.Put.{waiting_cases}
use borrow.Author.Rules.{rules}
use Rattle.response.proofs.job.put_waiting.Goals as goal

pub returns-then-j-eq0 : goal.returns-then-j-eq0
returns-then-j-eq0 c = search (rules, waiting_cases)

pub put_job-requires : goal.put_job-requires
put_job-requires c = search (rules, waiting_cases)

pub returns : goal.returns
returns c = search (rules, waiting_cases)
