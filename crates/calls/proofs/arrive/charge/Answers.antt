use borrow.Author.Rules.{rules}
use Rattle.bounded.specs.Within.{gate_cases}
use Rattle.calls.proofs.arrive.charge.Goals as goal

pub returns-then-own : goal.returns-then-own
returns-then-own c = search (rules, gate_cases)

pub returns-else-own : goal.returns-else-own
returns-else-own c = search (rules, gate_cases)
