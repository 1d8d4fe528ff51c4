use borrow.Author.Rules.{rules}
use Rattle.lines.specs.Input.{piece_laws}
use Rattle.lines.proofs.input.put_single.Goals as goal

pub returns : goal.returns
returns c = search (rules, piece_laws)
