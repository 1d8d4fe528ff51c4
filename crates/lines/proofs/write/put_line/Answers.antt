use Rattle.lines.specs.Text.{line_is}
use borrow.Author.Rules.{rules}
use borrow.Author.Rules.{rules}
use Rattle.lines.proofs.write.put_line.Goals as goal

pub returns : goal.returns
returns c = search (rules, line_is)
