use borrow.Author.Rules.{rules}
use Rattle.calls.specs.Code.{mark_alone}
use Rattle.calls.proofs.arrive.arrive_mixed.Goals as goal

pub arrive_by-requires : goal.arrive_by-requires
arrive_by-requires c = search (rules, mark_alone)
