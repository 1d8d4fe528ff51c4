use borrow.Author.Rules.{rules}
use Rattle.session.specs.Start.{start_cases}
use Rattle.session.proofs.start.start_by.Goals as goal

pub returns-in-Ok : goal.returns-in-Ok
returns-in-Ok c = search (rules, start_cases)

pub returns-in-Err : goal.returns-in-Err
returns-in-Err c = search (rules, start_cases)

-- The edit refused_table_started has an arm more; it puts the two lines of that arm's answer in the place of these two, so
-- that it is refused for what the arm gives and not for want of an answer.
