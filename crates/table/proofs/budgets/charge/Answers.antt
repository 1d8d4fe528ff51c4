use borrow.Author.Rules.{rules}
use Rattle.bounded.specs.Besides.{besides_cases}
use Rattle.table.proofs.budgets.charge.Goals as goal

pub returns-then-j-i : goal.returns-then-j-i
returns-then-j-i c = search (rules, besides_cases)

pub returns : goal.returns
returns c = search (rules, besides_cases)
