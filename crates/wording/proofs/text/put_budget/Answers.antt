use borrow.Author.Rules.{rules}
use Rattle.wording.specs.Write.{budget_cases}
use Rattle.wording.proofs.text.put_budget.Goals as goal

pub returns-then-budget-eq0 : goal.returns-then-budget-eq0
returns-then-budget-eq0 c = search (rules, budget_cases)

pub returns : goal.returns
returns c = search (rules, budget_cases)
