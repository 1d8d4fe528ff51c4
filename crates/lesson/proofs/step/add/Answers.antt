use Rattle.lesson.specs.Step.{add_cases}
use borrow.Author.Rules.{rules}
use Rattle.lesson.proofs.step.add.Goals as goal

pub returns-then-p-ge16 : goal.returns-then-p-ge16
returns-then-p-ge16 c = search (rules, add_cases)

pub returns : goal.returns
returns c = search (rules, add_cases)
