use borrow.Author.Rules.{rules}
use Rattle.desk.specs.Step.{unread_is}
use Rattle.desk.proofs.step.unreadable.Goals as goal

pub returns : goal.returns
returns c = search (rules, unread_is)
