use borrow.Author.Rules.{rules}
use Rattle.table.specs.Busy.{busy_laws}
use Rattle.table.proofs.busy.busy_length.Goals as goal

pub loop-r-init : goal.loop-r-init
loop-r-init c = search (rules, busy_laws)

pub overflow_add-sums : goal.overflow_add-sums
overflow_add-sums c = search (rules, busy_laws)

pub overflow_sub-next : goal.overflow_sub-next
overflow_sub-next c = search (rules, busy_laws)

pub further-far-requires : goal.further-far-requires
further-far-requires c = search (rules, busy_laws)

pub loop-r-preserved : goal.loop-r-preserved
loop-r-preserved c = search (rules, busy_laws)

pub returns-then-next-r : goal.returns-then-next-r
returns-then-next-r c = search (rules, busy_laws)

pub returns-then-far-gt1000000 : goal.returns-then-far-gt1000000
returns-then-far-gt1000000 c = search (rules, busy_laws)
