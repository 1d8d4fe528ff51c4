use borrow.Author.Rules.{rules}
use Rattle.decimal.specs.Written.{written_cases}
use Rattle.decimal.proofs.write.put_number.Goals as goal

pub put_digits-e-requires : goal.put_digits-e-requires
put_digits-e-requires c = search (rules, written_cases)

pub returns : goal.returns
returns c = search (rules, written_cases)
