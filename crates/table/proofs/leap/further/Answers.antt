use borrow.Author.Rules.{rules}
use Rattle.table.specs.Leap.{further_laws}
use Rattle.table.specs.Sieve.{lag_small}
use Rattle.table.proofs.leap.further.Goals as goal

pub returns-then-lag-lt256 : goal.returns-then-lag-lt256
returns-then-lag-lt256 c = search (rules, further_laws, lag_small)

pub sift-requires : goal.sift-requires
sift-requires c = search (rules, further_laws, lag_small)
