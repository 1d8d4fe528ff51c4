use Rattle.std.proofs.Common.{rules}
use Rattle.workload.specs.Rows.{row_is}
use Rattle.workload.proofs.rows.row_by.Goals as goal

pub returns : goal.returns
returns c = search (rules, row_is)
