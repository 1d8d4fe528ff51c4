use Rattle.lines.specs.Text.{head_is}
use borrow.Author.Rules.{rules}
use borrow.Author.Rules.{rules}
use Rattle.lines.proofs.write.put_head.Goals as goal

pub returns : goal.returns
returns c = search (rules, head_is)
