use Rattle.reader.specs.Answer.{tells_is}
use borrow.Author.Rules.{rules}
use Rattle.reader.proofs.tells.Goals as goal

pub returns : goal.returns
returns c = search (rules, tells_is)
