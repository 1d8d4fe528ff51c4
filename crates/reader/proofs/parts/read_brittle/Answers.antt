use Rattle.reader.specs.Code.{brittle_cases}
use borrow.Author.Rules.{rules}
use Rattle.reader.proofs.parts.read_brittle.Goals as goal

pub returns-then-b-eq66 : goal.returns-then-b-eq66
returns-then-b-eq66 c = search (rules, brittle_cases)

pub returns : goal.returns
returns c = search (rules, brittle_cases)
