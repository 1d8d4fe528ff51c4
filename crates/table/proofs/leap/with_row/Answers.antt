use borrow.Author.Rules.{rules}
use Rattle.table.specs.Leap.{filling_cases}
use Rattle.table.proofs.leap.with_row.Goals as goal

pub returns-then-recurs : goal.returns-then-recurs
returns-then-recurs c = search (rules, filling_cases)

pub returns : goal.returns
returns c = search (rules, filling_cases)
