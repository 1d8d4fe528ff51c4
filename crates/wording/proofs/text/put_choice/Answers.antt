use borrow.Author.Rules.{rules}
use Rattle.wording.specs.Write.{choice_is}
use Rattle.wording.proofs.text.put_choice.Goals as goal

pub returns : goal.returns
returns c = search (rules, choice_is)
