use Rattle.table.specs.Rows.{tasks_of}
use Rattle.response.specs.Responses.{ResponsesTo}
use Rattle.response.proofs.responses.responses.Given as goal

abbrev pub invariant-loop-i : goal.invariant-loop-i
invariant-loop-i l = ResponsesTo (tasks_of l.words) l.i l.spans
