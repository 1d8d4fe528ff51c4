-- What is shown of the game (docs/SPECIFICATION.md §13.3), for tables of any number of rows and any number of ticks. Statements only.
use Rattle.std.specs.Prelude.{ℕ, ◌≤◌, ◌<◌}
use Rattle.edf.specs.Demand.{TaskSet, Lawful, demand}
use Rattle.game.specs.Game.{opening, Forces, Wins, line_to, Exceeds}

-- ARRIVALS CAN FORCE A JOB UNFINISHED AT ITS DEADLINE WITHIN n TICKS EXACTLY WHEN THE DEMAND EXCEEDS t FOR SOME t UP TO n; the
-- demand is the one by which tables are admitted
pub record ExactlyWhen (τ : TaskSet) (n : ℕ) : Type 0 where
  pub exceeds : Forces τ n opening → Exceeds τ n
  pub forces : Exceeds τ n → Forces τ n opening

abbrev pub ForcedExactly : Type 0
ForcedExactly = (τ : TaskSet) → Lawful τ → (n : ℕ) → ExactlyWhen τ n

-- THEN A LINE OF RELEASES THAT LOOKS AT NO PLAY WINS, the one to any such t
abbrev pub LineWins : Type 0
LineWins = (τ : TaskSet) → Lawful τ → (n t : ℕ) → t ≤ n → t < demand τ t → Wins τ (line_to τ t) n opening
