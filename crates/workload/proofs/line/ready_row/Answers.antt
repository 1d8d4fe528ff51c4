use Rattle.std.proofs.Common.{rules}
use Rattle.workload.proofs.LineLaws.{ready_laws}
use Rattle.workload.proofs.line.ready_row.Goals as goal

pub loop-i-init : goal.loop-i-init
loop-i-init c = search (rules, ready_laws)

pub offset_bounds-s-i : goal.offset_bounds-s-i
offset_bounds-s-i c = search (rules, ready_laws)

pub bounds-s-i : goal.bounds-s-i
bounds-s-i c = search (rules, ready_laws)

pub returns-then-s-i : goal.returns-then-s-i
returns-then-s-i c = search (rules, ready_laws)

pub loop-i-preserved : goal.loop-i-preserved
loop-i-preserved c = search (rules, ready_laws)

pub returns : goal.returns
returns c = search (rules, ready_laws)
