use borrow.Author.Rules.{rules}
use Rattle.table.specs.Leap.{share_cases}
use Rattle.table.proofs.leap.share.Goals as goal

pub overflow_sub-result : goal.overflow_sub-result
overflow_sub-result c = search (rules, share_cases)

pub overflow_mul-result : goal.overflow_mul-result
overflow_mul-result c = search (rules, share_cases)

pub returns : goal.returns
returns c = search (rules, share_cases)
