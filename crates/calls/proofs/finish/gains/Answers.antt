use borrow.Author.Rules.{rules}
use Rattle.calls.specs.Code.{gains_cases}
use Rattle.calls.proofs.finish.gains.Goals as goal

pub returns-then-brittle : goal.returns-then-brittle
returns-then-brittle c = search (rules, gains_cases)

pub returns-then-j-gt0 : goal.returns-then-j-gt0
returns-then-j-gt0 c = search (rules, gains_cases)

pub returns-else-j-gt0 : goal.returns-else-j-gt0
returns-else-j-gt0 c = search (rules, gains_cases)
