use Rattle.reader.specs.Code.{decided_cases}
use borrow.Author.Rules.{rules}
use Rattle.reader.proofs.parts.read_decided.Goals as goal

pub returns-then-b-eq98 : goal.returns-then-b-eq98
returns-then-b-eq98 c = search (rules, decided_cases)

pub returns : goal.returns
returns c = search (rules, decided_cases)
