use Rattle.host.specs.Reply.{judgement_is}
use borrow.Author.Rules.{rules}
use Rattle.host.proofs.JudgementFromResultTableJudgementRefusal.from.Goals as goal

pub returns : goal.returns
returns c = search (rules, judgement_is)
