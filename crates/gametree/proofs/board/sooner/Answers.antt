use Rattle.gametree.specs.Code.{sooner_may}
use borrow.Author.Rules.{rules}
use Rattle.gametree.proofs.board.sooner.Goals as goal

pub returns-then-h-eq3 : goal.returns-then-h-eq3
returns-then-h-eq3 c = search (rules, sooner_may)

pub returns-then-j-k : goal.returns-then-j-k
returns-then-j-k c = search (rules, sooner_may)
