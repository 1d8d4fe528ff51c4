use borrow.Author.Rules.{rules}
use Rattle.decimal.specs.Number.{read_cases}
use Rattle.decimal.proofs.read.read_digits.Goals as goal

pub loop-b-preserved : goal.loop-b-preserved
loop-b-preserved c = search (rules, read_cases)
