use borrow.Author.Rules.{rules}
use Rattle.bounded.proofs.LeastLaws.{first_laws}
use Rattle.table.specs.Rows.{first_broken_lem}
use Rattle.table.proofs.rows.first_broken.Goals as goal

pub loop-i-init : goal.loop-i-init
loop-i-init c = search (rules, first_laws)

pub returns-then-breaks : goal.returns-then-breaks
unfolding first_broken_lem
returns-then-breaks c = (search (rules, first_laws), search rules)

pub loop-i-preserved : goal.loop-i-preserved
loop-i-preserved c = search (rules, first_laws)

pub returns : goal.returns
unfolding first_broken_lem
returns c = search (rules, first_laws)
