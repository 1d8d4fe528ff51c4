use borrow.Author.Rules.{rules}
use Rattle.table.specs.Sieve.{place_laws}
use Rattle.table.proofs.sieve.since.Goals as goal

pub overflow_mul-result : goal.overflow_mul-result
overflow_mul-result c = search (rules, place_laws)

pub overflow_sub-result-2 : goal.overflow_sub-result-2
overflow_sub-result-2 c = search (rules, place_laws)

pub returns : goal.returns
returns c = search (rules, place_laws)
