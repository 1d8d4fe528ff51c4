use borrow.Author.Rules.{rules}
use Rattle.table.specs.Drop.{rise_cases}
use Rattle.table.proofs.drop.rise.Goals as goal

pub overflow_mul-result : goal.overflow_mul-result
overflow_mul-result c = search (rules, rise_cases)

pub overflow_add-result : goal.overflow_add-result
overflow_add-result c = search (rules, rise_cases)

pub returns : goal.returns
returns c = search (rules, rise_cases)
