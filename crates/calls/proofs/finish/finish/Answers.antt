use borrow.Author.Rules.{rules}
use Rattle.session.specs.Calls.{finish_of}
use Rattle.session.specs.Guard.{checked_laws}
use Rattle.calls.proofs.finish.finish.Goals as goal

pub returns-in_default : goal.returns-in_default
unfolding finish_of
returns-in_default c = search (rules, checked_laws)

pub returns : goal.returns
unfolding finish_of
returns c = search (rules, checked_laws)
