use borrow.Author.Rules.{rules}
use Rattle.table.specs.Rows.{broken, row_rule}
use Rattle.table.proofs.rows.breaks.Goals as goal

pub returns-then-k-2 : goal.returns-then-k-2
unfolding broken row_rule
returns-then-k-2 c = search rules

pub returns-else-k-2 : goal.returns-else-k-2
unfolding broken row_rule
returns-else-k-2 c = search rules
