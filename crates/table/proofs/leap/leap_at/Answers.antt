use borrow.Author.Rules.{rules}
use Rattle.table.specs.Leap.{leap_at_lem}
use Rattle.table.proofs.leap.leap_at.Goals as goal

pub returns : goal.returns
returns c = search (rules, leap_at_lem)
