use Rattle.bounded.specs.Signed.{first_fits, second_fits, difference_back}
use Rattle.table.proofs.budgets.minus.Goals as goal

pub overflow_sub-result : goal.overflow_sub-result
overflow_sub-result c = first_fits _ _ _ c.requires.0 c.requires.1 c.requires.2

pub overflow_sub-result-2 : goal.overflow_sub-result-2
overflow_sub-result-2 c = second_fits _ _ _ c.requires.0 c.requires.1 c.requires.2

pub returns : goal.returns
returns c = difference_back _ _ _ c.requires.0 c.requires.1 c.requires.2
