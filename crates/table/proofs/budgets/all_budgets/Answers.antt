use borrow.Author.Rules.{rules}
use Rattle.table.specs.Budgets.{budgets_laws}
use Rattle.table.proofs.budgets.all_budgets.Goals as goal

pub loop-i-init : goal.loop-i-init
loop-i-init c = search (rules, budgets_laws)

pub loop-i-preserved : goal.loop-i-preserved
loop-i-preserved c = search (rules, budgets_laws)

pub returns : goal.returns
returns c = search (rules, budgets_laws)
