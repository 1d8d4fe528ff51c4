use Rattle.host.specs.Reply.{in_numbers_is}
use borrow.Author.Rules.{rules}
use Rattle.host.proofs.ReplyFromLentReply.from.Goals as goal

pub returns : goal.returns
returns c = search (rules, in_numbers_is)
