use borrow.Author.Rules.{rules}
use Rattle.calls.specs.Code.{budget_cases}
use Rattle.calls.proofs.arrive.budget.Goals as goal

pub returns-then-brittle : goal.returns-then-brittle
returns-then-brittle c = search (rules, budget_cases)

pub returns : goal.returns
returns c = search (rules, budget_cases)
