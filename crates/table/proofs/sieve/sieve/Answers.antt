use borrow.Author.Rules.{rules}
use Rattle.table.specs.Sieve.{sieving_laws}
use Rattle.table.proofs.sieve.sieve.Goals as goal

pub loop-i-init : goal.loop-i-init
loop-i-init c = search (rules, sieving_laws)

pub place-a-requires : goal.place-a-requires
place-a-requires c = search (rules, sieving_laws)

pub overflow_cast-k : goal.overflow_cast-k
overflow_cast-k c = search (rules, sieving_laws)

pub mark-requires : goal.mark-requires
mark-requires c = search (rules, sieving_laws)

pub loop-i-preserved : goal.loop-i-preserved
loop-i-preserved c = search (rules, sieving_laws)

pub lasts-requires : goal.lasts-requires
lasts-requires c = search (rules, sieving_laws)

pub returns : goal.returns
returns c = search (rules, sieving_laws)
