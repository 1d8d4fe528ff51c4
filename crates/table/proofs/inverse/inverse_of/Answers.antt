use borrow.Author.Rules.{rules}
use Rattle.table.specs.Inverse.{inverse_fits, inverse_of_lem}
use Rattle.table.proofs.inverse.inverse_of.Goals as goal

pub overflow_add-result : goal.overflow_add-result
overflow_add-result c = search (rules, inverse_fits)

pub returns : goal.returns
unfolding inverse_of_lem
returns c = search (rules, inverse_fits)
