use Rattle.table.specs.Rows.{none_broken}
use Rattle.gametree.specs.Entry.{playable_of}
use borrow.Author.Rules.{rules}
use Rattle.gametree.proofs.playable.Goals as goal

pub returns-then-n-le12 : goal.returns-then-n-le12
unfolding playable_of
returns-then-n-le12 c = search (rules, none_broken)

pub returns-else-n-le12 : goal.returns-else-n-le12
unfolding playable_of
returns-else-n-le12 c = search rules
