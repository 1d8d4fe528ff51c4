use Rattle.planning.specs.Put.{cost_cases}
use borrow.Author.Rules.{rules}
use Rattle.planning.proofs.cost.Goals as goal

pub returns-then-i-j : goal.returns-then-i-j
returns-then-i-j c = search (rules, cost_cases)

pub returns : goal.returns
returns c = search (rules, cost_cases)
