use borrow.Author.Rules.{rules}
use Rattle.session.specs.Calls.{arrive_of}
use Rattle.session.specs.Guard.{checked_laws}
use Rattle.calls.specs.Code.{mark_of}
use Rattle.calls.proofs.arrive.arrive.Goals as goal

pub arrive_by-requires : goal.arrive_by-requires
arrive_by-requires c = search (rules, mark_of)

pub returns-in_default : goal.returns-in_default
unfolding arrive_of
returns-in_default c = search (rules, checked_laws)

pub returns : goal.returns
unfolding arrive_of
returns c = search (rules, checked_laws)
