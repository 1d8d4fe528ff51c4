use borrow.Author.Rules.{rules}
use Rattle.calls.specs.Code.{looked_cases}
use Rattle.calls.proofs.arrive.looked_at.Goals as goal

pub returns-then-brittle : goal.returns-then-brittle
returns-then-brittle c = search (rules, looked_cases)

pub returns-else-brittle : goal.returns-else-brittle
returns-else-brittle c = search (rules, looked_cases)
