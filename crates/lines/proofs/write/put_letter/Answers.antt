use Rattle.lines.specs.Text.{letter_is}
use borrow.Author.Rules.{rules}
use borrow.Author.Rules.{rules}
use Rattle.lines.proofs.write.put_letter.Goals as goal

pub returns : goal.returns
returns c = search (rules, letter_is)
