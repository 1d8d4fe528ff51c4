use borrow.Author.Rules.{rules}
use Rattle.table.specs.First.{narrow_sums, narrow_laws}
use Rattle.table.proofs.first.first.Goals as goal

pub loop-r-init : goal.loop-r-init
loop-r-init c = search (rules, narrow_laws)

pub search-s-requires : goal.search-s-requires
search-s-requires c = search (rules, narrow_laws)

pub narrow-r-requires : goal.narrow-r-requires
narrow-r-requires c = (search rules, search (rules, narrow_sums))

pub loop-r-smaller : goal.loop-r-smaller
loop-r-smaller c = search (rules, narrow_laws)

pub loop-r-preserved : goal.loop-r-preserved
loop-r-preserved c = search (rules, narrow_laws)

pub returns : goal.returns
returns c = search (rules, narrow_laws)
