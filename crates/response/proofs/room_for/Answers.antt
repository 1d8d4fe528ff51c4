use Rattle.report.specs.Whole.{room_from_least}
use borrow.Author.Rules.{rules}
use Rattle.response.proofs.room_for.Goals as goal

pub returns : goal.returns
returns c = search (rules, room_from_least)
