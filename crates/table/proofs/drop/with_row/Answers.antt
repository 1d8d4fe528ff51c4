use borrow.Author.Rules.{rules}
use Rattle.table.specs.Drop.{holding_cases}
use Rattle.table.proofs.drop.with_row.Goals as goal

pub returns-then-due : goal.returns-then-due
returns-then-due c = search (rules, holding_cases)

pub returns : goal.returns
returns c = search (rules, holding_cases)
