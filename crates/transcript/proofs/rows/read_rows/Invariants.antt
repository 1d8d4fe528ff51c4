use Rattle.std.proofs.Common.{◌-◌}
use Rattle.transcript.specs.Table.{Reading}
use Rattle.transcript.proofs.rows.read_rows.Given as goal

abbrev pub invariant-loop-t : goal.invariant-loop-t
invariant-loop-t l = Reading l.text l.t

abbrev pub decreases-loop-t : goal.decreases-loop-t
decreases-loop-t l = 16 - l.t.count
