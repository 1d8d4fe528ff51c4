use borrow.Author.Rules.{rules}
use Rattle.report.specs.Put.{budget_is}
use Rattle.report.proofs.put_budget.Goals as goal

pub returns : goal.returns
returns c = search (rules, budget_is)
