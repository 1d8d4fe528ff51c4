use Rattle.host.specs.Reply.{budgets_cases}
use borrow.Author.Rules.{rules}
use Rattle.host.proofs.budgets_in.Goals as goal

pub returns-in-Ok : goal.returns-in-Ok
returns-in-Ok c = search (rules, budgets_cases)

pub returns-in-Err : goal.returns-in-Err
returns-in-Err c = search (rules, budgets_cases)
