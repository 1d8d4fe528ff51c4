use borrow.Author.Rules.{rules}
use Rattle.session.specs.Start.{start_laws}
use Rattle.session.proofs.start.start_on.Goals as goal

pub start_by-session-requires : goal.start_by-session-requires
start_by-session-requires c = search (rules, start_laws)

pub returns : goal.returns
returns c = search (rules, start_laws)
