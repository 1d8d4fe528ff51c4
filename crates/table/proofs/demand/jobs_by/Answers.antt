use borrow.Author.Rules.{rules}
use Rattle.table.specs.Demand.{owe_laws}
use Rattle.table.proofs.demand.jobs_by.Goals as goal

pub returns : goal.returns
returns c = search (rules, owe_laws)
