-- The proof of Statement.antt. Assumes nothing.
use Rattle.game.specs.Game.{opening, line_to}
use Rattle.game.specs.Statement.{ForcedExactly, LineWins}
use Rattle.game.specs.Force.{wins_forces}
use Rattle.game.proofs.ForceLaws.{line_wins as line}
use Rattle.game.proofs.HoldLaws.{forces_exceeds}

pub line_wins : LineWins
line_wins = line

pub forced_exactly : ForcedExactly
forced_exactly τ ok n = record {
  exceeds = forces_exceeds τ ok n;
  forces = λ e. wins_forces τ (line_to τ e.0) n opening (line τ ok n e.0 e.1 e.2);
}
