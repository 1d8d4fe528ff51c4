use Rattle.meter.specs.Code.{like_laws}
use borrow.Author.Rules.{rules}
use Rattle.meter.proofs.Schedule.like.Goals as goal

pub moved-requires : goal.moved-requires
moved-requires c = search (rules, like_laws)

pub returns : goal.returns
returns c = search (rules, like_laws)
