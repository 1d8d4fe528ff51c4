use Rattle.host.specs.Reply.{opened}
use borrow.Author.Rules.{rules}
use Rattle.host.proofs.shuffle_start.Goals as goal

pub returns : goal.returns
returns c = search (rules, opened)
