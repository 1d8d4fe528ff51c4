use Rattle.std.proofs.Common.{rules}
use Rattle.workload.specs.Rows.{tabling_laws}
use Rattle.workload.proofs.rows.put_rows.Goals as goal

pub overflow_cast-n : goal.overflow_cast-n
overflow_cast-n c = search (rules, tabling_laws)

pub overflow_add-n : goal.overflow_add-n
overflow_add-n c = search (rules, tabling_laws)

pub loop-i-init : goal.loop-i-init
loop-i-init c = search (rules, tabling_laws)

pub row_by-r-requires : goal.row_by-r-requires
row_by-r-requires c = search (rules, tabling_laws)

pub put_input-end-requires : goal.put_input-end-requires
put_input-end-requires c = search (rules, tabling_laws)

pub with_row-t-requires : goal.with_row-t-requires
with_row-t-requires c = search (rules, tabling_laws)

pub loop-i-preserved : goal.loop-i-preserved
loop-i-preserved c = search (rules, tabling_laws)

pub shape_of-out : goal.shape_of-out
shape_of-out c = search (rules, tabling_laws)

pub returns : goal.returns
returns c = search (rules, tabling_laws)
