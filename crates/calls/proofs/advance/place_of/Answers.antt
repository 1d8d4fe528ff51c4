use borrow.Author.Rules.{rules}
use Rattle.calls.specs.Code.{place_cases}
use Rattle.calls.proofs.advance.place_of.Goals as goal

pub returns-then-c-lt16 : goal.returns-then-c-lt16
returns-then-c-lt16 c = search (rules, place_cases)

pub returns-else-c-lt16 : goal.returns-else-c-lt16
returns-else-c-lt16 c = search (rules, place_cases)
