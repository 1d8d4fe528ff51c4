use borrow.Author.Rules.{rules}
use Rattle.report.specs.Put.{opinion_cases}
use Rattle.report.proofs.put_opinion.Goals as goal

pub returns-in-Ok : goal.returns-in-Ok
returns-in-Ok c = search (rules, opinion_cases)

pub returns-in-Err : goal.returns-in-Err
returns-in-Err c = search (rules, opinion_cases)
