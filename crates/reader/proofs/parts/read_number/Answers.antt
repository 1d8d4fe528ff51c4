use borrow.Author.Rules.{rules}
use Rattle.reader.specs.Code.{digits_cases}
use Rattle.reader.proofs.parts.read_number.Goals as goal

pub returns-then-b-lt48 : goal.returns-then-b-lt48
returns-then-b-lt48 c = search (rules, digits_cases)

pub loop-i-preserved : goal.loop-i-preserved
loop-i-preserved c = search (rules, digits_cases)

pub returns : goal.returns
returns c = search (rules, digits_cases)
