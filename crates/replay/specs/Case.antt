-- A case ends past its start and within the input. Assumes nothing.
use Rattle.std.specs.Prelude.{ℕ, ◌≤◌, ◌<◌, List, length}

pub record Past (l : List ℕ) (at r : ℕ) : Type 0 where
  pub on : at < r
  pub within : r ≤ length l
