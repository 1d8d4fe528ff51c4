use borrow.Author.Rules.{rules}
use Rattle.calls.specs.Code.{load_cases}
use Rattle.calls.proofs.arrive.row_load.Goals as goal

pub overflow_add-result : goal.overflow_add-result
overflow_add-result c = search (rules, load_cases)

pub returns : goal.returns
returns c = search (rules, load_cases)
