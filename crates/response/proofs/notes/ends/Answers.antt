use Rattle.response.specs.Note.{ends_cases}
use borrow.Author.Rules.{rules}
use Rattle.response.proofs.notes.ends.Goals as goal

pub returns-then-number-ne0 : goal.returns-then-number-ne0
returns-then-number-ne0 c = search (rules, ends_cases)

pub returns-in-Arrive : goal.returns-in-Arrive
returns-in-Arrive c = search (rules, ends_cases)

pub returns-in-Choose : goal.returns-in-Choose
returns-in-Choose c = search (rules, ends_cases)

pub returns-in-Advance : goal.returns-in-Advance
returns-in-Advance c = search (rules, ends_cases)

pub returns-in-Finish : goal.returns-in-Finish
returns-in-Finish c = search (rules, ends_cases)
