-- What the search says (docs/SPECIFICATION.md §13.3). Statements only.
use Rattle.std.specs.Prelude.{ℕ, ◌≤◌, ◌≡◌, true, false, List, Result, Ok, Err}
use Rattle.game.specs.Game.{opening, Forces, Exceeds}
use Rattle.table.specs.Rows.{tasks_of}
use Rattle.table.specs.Verdict.{opinion_of}
use Rattle.gametree.specs.declared.Finding.{Finding}
use Rattle.gametree.specs.declared.Finding.TheVariants.{Forced, Held}
use Rattle.gametree.specs.declared.Refusal.{Refusal}
use Rattle.gametree.specs.declared.Refusal.TheVariants.{BrokenRules}
use Rattle.gametree.specs.Entry.{playable_of, search_of}

-- ITS ANSWER IS THE GAME'S: Forced where arrivals can force a job unfinished at its deadline within n ticks, Held where they can't,
-- and a refusal where the slice, its rows or n break their rules
pub record Says (l : List ℕ) (n : ℕ) (r : Result Finding Refusal) : Type 0 where
  pub refused : playable_of l n ≡ false → r ≡ Err BrokenRules
  pub forced : playable_of l n ≡ true → Forces (tasks_of l) n opening → r ≡ Ok Forced
  pub held : playable_of l n ≡ true → (Forces (tasks_of l) n opening → ⊥) → r ≡ Ok Held

-- and the other way round: what each answer means, of the game and of the demand
pub record Means (l : List ℕ) (n : ℕ) (r : Result Finding Refusal) : Type 0 where
  pub forces : r ≡ Ok Forced → Forces (tasks_of l) n opening
  pub exceeds : r ≡ Ok Forced → Exceeds (tasks_of l) n
  pub holds : r ≡ Ok Held → Forces (tasks_of l) n opening → ⊥
  pub within : r ≡ Ok Held → Exceeds (tasks_of l) n → ⊥
  pub exceeded : playable_of l n ≡ true → Exceeds (tasks_of l) n → r ≡ Ok Forced
  pub refuses : r ≡ Err BrokenRules → playable_of l n ≡ false

abbrev pub SearchExact : Type 0
SearchExact = (l : List ℕ) (n : ℕ) → Says l n (search_of l n) × Means l n (search_of l n)

-- SO AN ADMITTED TABLE IS HELD, and one that is refused with 3 is forced within any n that reaches the tick which the opinion names
abbrev pub AdmittedHeld : Type 0
AdmittedHeld = (l : List ℕ) (n : ℕ) → playable_of l n ≡ true → (opinion_of l).number ≡ 0 → search_of l n ≡ Ok Held

abbrev pub RefusedForced : Type 0
RefusedForced = (l : List ℕ) (n : ℕ) → playable_of l n ≡ true → (opinion_of l).number ≡ 3 → (opinion_of l).first ≤ n → search_of l n ≡ Ok Forced
