use borrow.Author.Rules.{rules}
use Rattle.gametree.specs.Code.{missed_cases}
use Rattle.gametree.proofs.board.missed.Goals as goal

pub loop-j-init : goal.loop-j-init
loop-j-init c = search (rules, missed_cases)

pub returns-then-late : goal.returns-then-late
returns-then-late c = search (rules, missed_cases)

pub loop-j-preserved : goal.loop-j-preserved
loop-j-preserved c = search (rules, missed_cases)

pub returns : goal.returns
returns c = search (rules, missed_cases)
