use Rattle.gametree.specs.Code.{played_cases}
use borrow.Author.Rules.{rules}
use Rattle.gametree.proofs.board.played.Goals as goal

pub returns-then-m-ge3 : goal.returns-then-m-ge3
returns-then-m-ge3 c = search (rules, played_cases)

pub returns : goal.returns
returns c = search (rules, played_cases)
