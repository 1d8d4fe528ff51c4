use Rattle.host.specs.Reply.{start_reply_lem}
use borrow.Author.Rules.{rules}
use Rattle.host.proofs.ReplyFromResultTableJudgementRefusal.from.Goals as goal

pub returns : goal.returns
returns c = search (rules, start_reply_lem)
