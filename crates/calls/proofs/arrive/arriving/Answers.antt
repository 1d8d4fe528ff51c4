use borrow.Author.Rules.{rules}
use Rattle.calls.specs.Code.{arriving_is}
use Rattle.calls.proofs.arrive.arriving.Goals as goal

pub returns : goal.returns
returns c = search (rules, arriving_is)
