use borrow.Author.Rules.{rules}
use Rattle.table.specs.Settle.{rising_laws}
use Rattle.table.proofs.settle.climb.Goals as goal

pub loop-r-init : goal.loop-r-init
loop-r-init c = search (rules, rising_laws)

pub overflow_add-sums : goal.overflow_add-sums
overflow_add-sums c = search (rules, rising_laws)

pub returns-then-next-r : goal.returns-then-next-r
returns-then-next-r c = search (rules, rising_laws)

pub overflow_sub-next : goal.overflow_sub-next
overflow_sub-next c = search (rules, rising_laws)

pub loop-r-preserved : goal.loop-r-preserved
loop-r-preserved c = search (rules, rising_laws)

pub returns : goal.returns
returns c = search (rules, rising_laws)
