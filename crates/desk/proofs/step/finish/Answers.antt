use borrow.Author.Rules.{rules}
use Rattle.desk.specs.Step.{finish_cases}
use Rattle.desk.proofs.step.finish.Goals as goal

pub returns-then-p : goal.returns-then-p
returns-then-p c = search (rules, finish_cases)

pub returns : goal.returns
returns c = search (rules, finish_cases)
