use borrow.Author.Rules.{rules}
use Rattle.calls.specs.Code.{pending_cases}
use Rattle.calls.proofs.arrive.pending.Goals as goal

pub returns-then-d-j : goal.returns-then-d-j
returns-then-d-j c = search (rules, pending_cases)

pub returns-else-d-j : goal.returns-else-d-j
returns-else-d-j c = search (rules, pending_cases)
