use Rattle.lesson.specs.Put.{over_laws}
use borrow.Author.Rules.{rules}
use Rattle.lesson.proofs.releases.first_over.Goals as goal

pub inverses_of-inverses-requires : goal.inverses_of-inverses-requires
inverses_of-inverses-requires c = search (rules, over_laws)

pub overflow_add-end : goal.overflow_add-end
overflow_add-end c = search (rules, over_laws)

pub loop-t-init : goal.loop-t-init
loop-t-init c = search (rules, over_laws)

pub demand_at-requires : goal.demand_at-requires
demand_at-requires c = search (rules, over_laws)

pub returns-then-t-demand_at : goal.returns-then-t-demand_at
returns-then-t-demand_at c = search (rules, over_laws)

pub loop-t-preserved : goal.loop-t-preserved
loop-t-preserved c = search (rules, over_laws)

pub returns : goal.returns
returns c = search (rules, over_laws)
