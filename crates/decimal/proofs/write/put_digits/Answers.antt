use borrow.Author.Rules.{rules}
use Rattle.decimal.specs.Written.{filling_laws}
use Rattle.decimal.proofs.write.put_digits.Goals as goal

pub overflow_sub-i : goal.overflow_sub-i
overflow_sub-i c = search (rules, filling_laws)

pub bounds-out-i : goal.bounds-out-i
bounds-out-i c = search (rules, filling_laws)

pub bounds-out-at : goal.bounds-out-at
bounds-out-at c = search (rules, filling_laws)

pub returns : goal.returns
returns c = search (rules, filling_laws)
