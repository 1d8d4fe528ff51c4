use Rattle.reader.specs.Code.{holds_cases}
use borrow.Author.Rules.{rules}
use Rattle.reader.proofs.parts.past_holds.Goals as goal

pub returns-then-b-eq32 : goal.returns-then-b-eq32
returns-then-b-eq32 c = search (rules, holds_cases)

pub returns : goal.returns
returns c = search (rules, holds_cases)
