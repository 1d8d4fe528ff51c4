use borrow.Author.Rules.{rules}
use Rattle.session.specs.Soundness.{most_cases}
use Rattle.session.proofs.sound.most_budget.Goals as goal

pub returns-then-brittle : goal.returns-then-brittle
returns-then-brittle c = search (rules, most_cases)

pub returns-else-brittle : goal.returns-else-brittle
returns-else-brittle c = search (rules, most_cases)
