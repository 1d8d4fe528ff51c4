use borrow.Author.Rules.{rules}
use Rattle.table.specs.Inverse.{inverses_laws}
use Rattle.table.proofs.inverse.inverses_of.Goals as goal

pub loop-i-init : goal.loop-i-init
loop-i-init c = search (rules, inverses_laws)

pub offset_bounds-inverses-i : goal.offset_bounds-inverses-i
offset_bounds-inverses-i c = search (rules, inverses_laws)

pub bounds-inverses-i : goal.bounds-inverses-i
bounds-inverses-i c = search (rules, inverses_laws)

pub loop-i-preserved : goal.loop-i-preserved
loop-i-preserved c = search (rules, inverses_laws)

pub returns : goal.returns
returns c = search (rules, inverses_laws)
