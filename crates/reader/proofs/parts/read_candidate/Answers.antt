use Rattle.reader.specs.Code.{candidate_cases}
use borrow.Author.Rules.{rules}
use Rattle.reader.proofs.parts.read_candidate.Goals as goal

pub returns-then-b-eq99 : goal.returns-then-b-eq99
returns-then-b-eq99 c = search (rules, candidate_cases)

pub returns : goal.returns
returns c = search (rules, candidate_cases)
