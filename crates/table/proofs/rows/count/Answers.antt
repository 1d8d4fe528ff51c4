use borrow.Author.Rules.{rules}
use Rattle.table.specs.Rows.{tasks_of}
use Rattle.table.proofs.rows.count.Goals as goal

pub returns : goal.returns
unfolding tasks_of
returns c = search rules
