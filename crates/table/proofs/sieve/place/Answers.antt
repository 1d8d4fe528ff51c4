use borrow.Author.Rules.{rules}
use Rattle.table.specs.Sieve.{place_laws}
use Rattle.table.proofs.sieve.place.Goals as goal

pub returns-then-back : goal.returns-then-back
returns-then-back c = search (rules, place_laws)

pub returns-else-back : goal.returns-else-back
returns-else-back c = search (rules, place_laws)
