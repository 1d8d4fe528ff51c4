use Rattle.decimal.specs.Joined.{Joined}
use Rattle.report.specs.Put.{budget_at}
use Rattle.report.proofs.put_budgets.Given as goal

abbrev pub invariant-loop-i : goal.invariant-loop-i
invariant-loop-i l = Joined (budget_at l.fn.values) 87 l.rows l.initial.out l.at l.i l.out l.e
