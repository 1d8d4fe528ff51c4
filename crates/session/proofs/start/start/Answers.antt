use borrow.Author.Rules.{rules}
use Rattle.session.specs.Start.{starts_none}
use Rattle.session.proofs.start.start.Goals as goal

pub returns : goal.returns
returns c = search (rules, starts_none)
