use Rattle.gametree.specs.Code.{may_rest}
use borrow.Author.Rules.{rules}
use Rattle.gametree.proofs.board.head.Goals as goal

pub sooner-a-requires : goal.sooner-a-requires
sooner-a-requires c = search (rules, may_rest)
