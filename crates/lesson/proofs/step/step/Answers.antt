use Rattle.lesson.specs.Step.{step_cases}
use borrow.Author.Rules.{rules}
use Rattle.lesson.proofs.step.step.Goals as goal

pub returns-in-Row : goal.returns-in-Row
returns-in-Row c = search (rules, step_cases)

pub returns-in-Ask : goal.returns-in-Ask
returns-in-Ask c = search (rules, step_cases)

pub returns-in-Unreadable : goal.returns-in-Unreadable
returns-in-Unreadable c = search (rules, step_cases)
