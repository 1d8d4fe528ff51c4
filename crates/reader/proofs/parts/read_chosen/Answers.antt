use Rattle.reader.specs.Code.{chosen_cases}
use borrow.Author.Rules.{rules}
use Rattle.reader.proofs.parts.read_chosen.Goals as goal

pub returns-then-b-eq105 : goal.returns-then-b-eq105
returns-then-b-eq105 c = search (rules, chosen_cases)

pub returns : goal.returns
returns c = search (rules, chosen_cases)
