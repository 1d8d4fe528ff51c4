use Rattle.reader.specs.Code.{parts_are}
use borrow.Author.Rules.{rules}
use Rattle.reader.proofs.parts.read_parts.Goals as goal

pub returns : goal.returns
returns c = search (rules, parts_are)
