use borrow.Author.Rules.{rules}
use Rattle.table.specs.Rows.{fit_row}
use Rattle.table.proofs.rows.fit_row.Goals as goal

pub returns : goal.returns
returns c = search (rules, fit_row)
