use Rattle.narration.specs.Telling.{closed_cases}
use borrow.Author.Rules.{rules}
use Rattle.narration.proofs.closed.Goals as goal

pub returns-then-t-length : goal.returns-then-t-length
returns-then-t-length c = search (rules, closed_cases)

pub returns : goal.returns
returns c = search (rules, closed_cases)
