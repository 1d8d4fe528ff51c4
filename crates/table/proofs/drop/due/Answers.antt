use borrow.Author.Rules.{rules}
use Rattle.table.specs.Drop.{rise_cases}
use Rattle.table.proofs.drop.due.Goals as goal

pub overflow_mul-result : goal.overflow_mul-result
overflow_mul-result c = search (rules, rise_cases)

pub returns : goal.returns
returns c = search (rules, rise_cases)
