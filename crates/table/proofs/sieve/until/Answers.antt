use borrow.Author.Rules.{rules}
use Rattle.table.specs.Sieve.{place_laws}
use Rattle.table.proofs.sieve.until.Goals as goal

pub overflow_mul-result : goal.overflow_mul-result
overflow_mul-result c = search (rules, place_laws)

pub overflow_sub-result : goal.overflow_sub-result
overflow_sub-result c = search (rules, place_laws)

pub returns : goal.returns
returns c = search (rules, place_laws)
