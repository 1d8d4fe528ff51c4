use borrow.Author.Rules.{rules}
use Rattle.session.specs.Start.{fresh_is}
use Rattle.session.proofs.Session.fresh.Goals as goal

pub returns : goal.returns
returns c = search (rules, fresh_is)
