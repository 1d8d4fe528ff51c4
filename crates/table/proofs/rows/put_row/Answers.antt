use Rattle.std.proofs.Common.{length-set}
use borrow.Author.Rules.{rules}
use Rattle.table.proofs.rows.put_row.Goals as goal

pub bounds-words-i-2 : goal.bounds-words-i-2
bounds-words-i-2 c = simp length-set (search rules)

pub bounds-words-i-3 : goal.bounds-words-i-3
bounds-words-i-3 c = simp length-set (search rules)
