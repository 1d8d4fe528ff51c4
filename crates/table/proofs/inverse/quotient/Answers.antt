use borrow.Author.Rules.{rules}
use Rattle.table.specs.Inverse.{quotient_laws}
use Rattle.table.proofs.inverse.quotient.Goals as goal

pub overflow_mul-result : goal.overflow_mul-result
overflow_mul-result c = search (rules, quotient_laws)

pub returns : goal.returns
returns c = search (rules, quotient_laws)
