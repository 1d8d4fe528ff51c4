use borrow.Author.Rules.{rules}
use Rattle.table.specs.Verdict.{bad_length}
use Rattle.table.proofs.ill_sized.Goals as goal

pub returns-then-n-gt48 : goal.returns-then-n-gt48
unfolding bad_length
returns-then-n-gt48 c = search rules

pub returns-else-n-gt48 : goal.returns-else-n-gt48
unfolding bad_length
returns-else-n-gt48 c = search rules
