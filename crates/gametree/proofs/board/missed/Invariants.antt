use Rattle.gametree.specs.Code.{InTime}
use Rattle.gametree.proofs.board.missed.Given as goal

abbrev pub invariant-loop-j : goal.invariant-loop-j
invariant-loop-j l = InTime l.fn.b l.j-index
