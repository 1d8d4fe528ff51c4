use borrow.Author.Rules.{rules}
use Rattle.desk.specs.Step.{step_cases}
use Rattle.desk.proofs.step.step.Goals as goal

pub returns-in-Row : goal.returns-in-Row
returns-in-Row c = search (rules, step_cases)

pub returns-in-Word : goal.returns-in-Word
returns-in-Word c = search (rules, step_cases)

pub returns-in-Call : goal.returns-in-Call
returns-in-Call c = search (rules, step_cases)

pub returns-in-Empty : goal.returns-in-Empty
returns-in-Empty c = search (rules, step_cases)

pub returns-in-Unreadable : goal.returns-in-Unreadable
returns-in-Unreadable c = search (rules, step_cases)
