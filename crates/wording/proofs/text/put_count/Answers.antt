use borrow.Author.Rules.{rules}
use Rattle.wording.specs.Write.{count_is}
use Rattle.wording.proofs.text.put_count.Goals as goal

pub returns : goal.returns
returns c = search (rules, count_is)
