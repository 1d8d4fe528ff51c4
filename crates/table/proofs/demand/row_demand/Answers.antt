use borrow.Author.Rules.{rules}
use Rattle.table.specs.Demand.{demand_laws}
use Rattle.table.proofs.demand.row_demand.Goals as goal

pub returns : goal.returns
returns c = search (rules, demand_laws)
