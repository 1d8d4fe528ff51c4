use Rattle.gametree.specs.Code.{released_is}
use borrow.Author.Rules.{rules}
use Rattle.gametree.proofs.board.released.Goals as goal

pub returns : goal.returns
returns c = search (rules, released_is)
