use borrow.Author.Rules.{rules}
use Rattle.table.specs.Leap.{share_cases}
use Rattle.table.proofs.leap.recurs.Goals as goal

pub overflow_mul-result : goal.overflow_mul-result
overflow_mul-result c = search (rules, share_cases)

pub returns : goal.returns
returns c = search (rules, share_cases)
