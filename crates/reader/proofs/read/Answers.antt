use Rattle.reader.specs.Answer.{read_cases, count_few}
use borrow.Author.Rules.{rules}
use Rattle.reader.proofs.read.Goals as goal

pub returns-then-count-gt16 : goal.returns-then-count-gt16
returns-then-count-gt16 c = search (rules, read_cases)

pub tells-requires : goal.tells-requires
tells-requires c = search (rules, count_few)

pub returns : goal.returns
returns c = search (rules, read_cases)
