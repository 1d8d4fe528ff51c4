use Rattle.planning.specs.Put.{cut_cases}
use borrow.Author.Rules.{rules}
use Rattle.planning.proofs.cut.Goals as goal

pub returns-then-t-k : goal.returns-then-t-k
returns-then-t-k c = search (rules, cut_cases)

pub overflow_add-jobs : goal.overflow_add-jobs
overflow_add-jobs c = search (rules, cut_cases)

pub returns-then-fall-k : goal.returns-then-fall-k
returns-then-fall-k c = search (rules, cut_cases)

pub returns : goal.returns
returns c = search (rules, cut_cases)
