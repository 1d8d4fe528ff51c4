use borrow.Author.Rules.{rules}
use Rattle.table.proofs.OverloadLaws.{overload_laws}
use Rattle.table.proofs.overload.search.Goals as goal

pub loop-t-init : goal.loop-t-init
loop-t-init c = search (rules, overload_laws)

pub overflow_add-sums : goal.overflow_add-sums
overflow_add-sums c = search (rules, overload_laws)

pub returns-then-t-h : goal.returns-then-t-h
returns-then-t-h c = search (rules, overload_laws)

pub loop-t-preserved : goal.loop-t-preserved
loop-t-preserved c = search (rules, overload_laws)

pub returns : goal.returns
returns c = search (rules, overload_laws)
