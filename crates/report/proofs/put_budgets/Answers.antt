use borrow.Author.Rules.{rules}
use Rattle.report.specs.Put.{budgets_laws}
use Rattle.report.proofs.put_budgets.Goals as goal

pub loop-i-init : goal.loop-i-init
loop-i-init c = search (rules, budgets_laws)

pub put_budget-e-requires : goal.put_budget-e-requires
put_budget-e-requires c = search (rules, budgets_laws)

pub loop-i-preserved : goal.loop-i-preserved
loop-i-preserved c = search (rules, budgets_laws)

pub returns : goal.returns
returns c = search (rules, budgets_laws)
