-- Tables with brittle rows: what makes every deadline met there, and that each step keeps it. Assumes nothing.
use Rattle.std.specs.Prelude.{ℕ, ◌+◌, ◌≤◌, ◌<◌, ◌≡◌, Bool, true}
use Rattle.edf.specs.Demand.{TaskSet}
use Rattle.edf.specs.State.{State, soonest, Slack, SlackOn}

-- d is no earlier than the earliest deadline that the next job of some brittle row can have
pub record Watched (τ : TaskSet) (brittle : ℕ → Bool) (s : State) (d : ℕ) : Type 0 where
  pub row : ℕ
  pub known : row < τ.rows
  pub marked : brittle row ≡ true
  pub by : soonest s row + τ.D row ≤ d

-- by each such d there is time for the load, and by the deadline of each waiting job also for its budget
pub record MixedSlack (τ : TaskSet) (brittle : ℕ → Bool) (s : State) : Type 0 where
  pub slack : Slack τ s
  pub watched : SlackOn τ s (Watched τ brittle s)
