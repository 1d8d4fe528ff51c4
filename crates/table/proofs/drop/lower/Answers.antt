use borrow.Author.Rules.{rules}
use Rattle.table.specs.Drop.{lower_laws}
use Rattle.table.specs.Sieve.{lag_small}
use Rattle.table.proofs.drop.lower.Goals as goal

pub sift-requires : goal.sift-requires
sift-requires c = search (rules, lower_laws, lag_small)
