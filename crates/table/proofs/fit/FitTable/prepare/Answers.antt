use borrow.Author.Rules.{rules}
use Rattle.table.specs.Inverse.{ready_of}
use Rattle.table.proofs.fit.FitTable.prepare.Goals as goal

pub returns : goal.returns
returns c = search (rules, ready_of)
