use Rattle.meter.specs.Code.{near_is}
use borrow.Author.Rules.{rules}
use Rattle.meter.proofs.near.Goals as goal

pub returns : goal.returns
returns c = search (rules, near_is)
