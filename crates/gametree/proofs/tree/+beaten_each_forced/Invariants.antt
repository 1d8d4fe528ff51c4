-- Ticks left and rows, or moves, still to decide fall.
use Rattle.std.proofs.Common.{◌+◌, ◌*◌}
use Rattle.gametree.proofs.tree.+beaten_each_forced.Given as goal

abbrev pub decreases-beaten : goal.decreases-beaten
decreases-beaten l = 10 * l.ticks

abbrev pub decreases-each : goal.decreases-each
decreases-each l = 10 * l.ticks + 1 + l.m

abbrev pub decreases-forced : goal.decreases-forced
decreases-forced l = 10 * l.ticks + 6 + l.rows
