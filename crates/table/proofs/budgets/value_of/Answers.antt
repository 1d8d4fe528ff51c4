use borrow.Author.Rules.{rules}
use Rattle.table.specs.Budgets.{budget_is}
use Rattle.table.proofs.budgets.value_of.Goals as goal

pub returns : goal.returns
returns c = search (rules, budget_is)
