use borrow.Author.Rules.{rules}
use Rattle.wording.specs.Write.{value_is}
use Rattle.wording.proofs.text.put_value.Goals as goal

pub returns : goal.returns
returns c = search (rules, value_is)
