-- What is shown of what `contest` prints (docs/SPECIFICATION.md §13.4). Statements only.
use Rattle.std.specs.Prelude.{ℕ, ◌≤◌, ◌<◌, ◌≡◌, true, List, [], ◌∷◌, ◌++◌, length, Ok}
use Rattle.edf.specs.Demand.{demand}
use Rattle.game.specs.Game.{opening, Wins, line_to}
use Rattle.lines.specs.Text.{line_text}
use Rattle.table.specs.Rows.{tasks_of}
use Rattle.gametree.specs.declared.Finding.TheVariants.{Forced}
use Rattle.gametree.specs.Entry.{search_of}
use Rattle.report.specs.Rows.{row_words}
use Rattle.lesson.specs.declared.item.Item.{Item}
use Rattle.lesson.specs.declared.item.Item.TheVariants.{Row, Ask}
use Rattle.lesson.specs.Lesson.{overload_by, releases_text, answer_text, no_table, answers_from, output_of}

-- WHERE IT PRINTS THAT ARRIVALS WIN, THE RELEASES THAT IT PRINTS WIN WHATEVER IS PLAYED: after the line `N` comes the line to t, tick by
-- tick and row by row; t is at most n and its demand exceeds it; that line wins within n ticks; and nothing of it is left out
pub record Printed (l : List ℕ) (n : ℕ) : Type 0 where
  pub t : ℕ
  pub least : t ≡ overload_by (tasks_of l) n
  pub within : t ≤ n
  pub over : t < demand (tasks_of l) t
  pub text : answer_text l n ≡ line_text 0 78 0 1 0 ++ releases_text (tasks_of l) t
  pub wins : Wins (tasks_of l) (line_to (tasks_of l) t) n opening
  pub whole : (c i : ℕ) → line_to (tasks_of l) t c i ≡ true → (c < t) × (i < (tasks_of l).rows)

abbrev pub PrintedLineWins : Type 0
PrintedLineWins = (l : List ℕ) (n : ℕ) → search_of l n ≡ Ok Forced → Printed l n

-- EVERY INPUT GETS AN ANSWER: no output is empty
abbrev pub NeverEmpty : Type 0
NeverEmpty = (input : List ℕ) → 1 ≤ length (output_of input)

-- rows as lines
abbrev pub row_items : List (ℕ × ℕ × ℕ) → List Item
row_items [] = []
row_items (r ∷ l) = Row r.0 r.1 r.2 ∷ row_items l

-- OF UP TO 16 ROWS AND A QUESTION THE ANSWER ON THEM IS PRINTED, and nothing else
abbrev pub RowsAsked : Type 0
RowsAsked =
    (n : ℕ) (rows : List (ℕ × ℕ × ℕ)) (m : ℕ) → length rows ≤ 16
    → answers_from n no_table (row_items rows ++ Ask m ∷ []) ≡ answer_text (row_words rows) m
