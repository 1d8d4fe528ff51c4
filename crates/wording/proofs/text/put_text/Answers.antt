use borrow.Author.Rules.{rules}
use Rattle.wording.specs.Write.{text_is}
use Rattle.wording.proofs.text.put_text.Goals as goal

pub returns : goal.returns
returns c = search (rules, text_is)
