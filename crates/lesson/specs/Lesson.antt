-- The whole of what `contest` writes (docs/SPECIFICATION.md §13.4). Definitions only. Assumes nothing.
use Rattle.std.specs.Prelude.{ℕ, suc, ◌+◌, Bool, true, false, cond, List, [], ◌∷◌, ◌++◌, ltb, leb, eqb, length, take, Option, Some, None, Result, Ok, Err}
use Rattle.bounded.specs.Least.{least_from}
use Rattle.decimal.specs.Joined.{join_to}
use Rattle.edf.specs.Demand.{TaskSet, demand}
use Rattle.game.specs.Game.{line_to}
use Rattle.lines.specs.Text.{line_text}
use Rattle.table.specs.declared.Numbers.{Numbers}
use Rattle.table.specs.Rows.{tasks_of}
use Rattle.gametree.specs.declared.Finding.{Finding}
use Rattle.gametree.specs.declared.Finding.TheVariants.{Forced, Held}
use Rattle.gametree.specs.declared.Refusal.{Refusal}
use Rattle.gametree.specs.Entry.{search_of, numbers_of}
use Rattle.report.specs.Whole.{Filled}
use Rattle.lesson.specs.declared.item.Item.{Item}
use Rattle.lesson.specs.declared.item.Item.TheVariants.{Row, Ask, Unreadable}
use Rattle.lesson.specs.Item.{items_of}

-- how many bytes are read; any beyond are unread
abbrev pub input_limit : ℕ
input_limit = 1024

-- ---- an answer

-- the least t up to n with a demand above it; n + 1 where there is none
unfoldable pub overload_by : TaskSet → ℕ → ℕ
overload_by τ n = least_from (λ t. ltb t (demand τ t)) 0 (n + 1)

-- the same t, if there is one
unfoldable pub overload_within : TaskSet → ℕ → Option ℕ
overload_within τ n = cond (leb (overload_by τ n) n) (Some (overload_by τ n)) None

-- the release of row i at tick c, if the line to t has it: letter `A`, number 0, row and deadline
unfoldable pub release_text : TaskSet → ℕ → ℕ → ℕ → List ℕ
release_text τ t c i = cond (line_to τ t c i) (line_text c 65 0 i (c + τ.D i)) []

-- those of a tick, row by row
unfoldable pub tick_text : TaskSet → ℕ → ℕ → List ℕ
tick_text τ t c = join_to (release_text τ t c) τ.rows

-- the line to t, tick by tick
unfoldable pub releases_text : TaskSet → ℕ → List ℕ
releases_text τ t = join_to (tick_text τ t) t

-- letter `N`: number and values
abbrev pub shown_text : Numbers → List ℕ
shown_text v = line_text 0 78 v.number v.first v.second

-- what follows it: where arrivals win, a line of releases that wins whatever is played
abbrev pub line_of_releases : List ℕ → ℕ → Result Finding Refusal → List ℕ
line_of_releases l n (Ok Forced) = releases_text (tasks_of l) (overload_by (tasks_of l) n)
line_of_releases l n (Ok Held) = []
line_of_releases l n (Err x) = []

abbrev pub finding_text : List ℕ → ℕ → Result Finding Refusal → List ℕ
finding_text l n f = shown_text (numbers_of f) ++ line_of_releases l n f

-- what the search says of a table and n
unfoldable pub answer_text : List ℕ → ℕ → List ℕ
answer_text l n = finding_text l n (search_of l n)

-- ---- line by line

-- the rows so far, three numbers to each, and how many questions were asked
pub record Table : Type 0 where
  pub rows : List ℕ
  pub asked : ℕ

abbrev pub no_table : Table
no_table = record { rows = []; asked = 0 }

-- what a line prints, the table after it, and whether it ends the output
pub record Step : Type 0 where
  pub text : List ℕ
  pub table : Table
  pub over : Bool

-- an unreadable line, number n from 1: letter `?` and number 13
abbrev pub unread : ℕ → Table → Step
unread n t = record { text = line_text 0 63 13 n 0; table = t; over = true }

-- a row more
abbrev pub added : Table → ℕ → ℕ → ℕ → Step
added t c p d = record { text = []; table = record { rows = t.rows ++ c ∷ p ∷ d ∷ []; asked = t.asked }; over = false }

-- a question about the rows so far
abbrev pub answered : Table → ℕ → Step
answered t m = record { text = answer_text t.rows m; table = record { rows = t.rows; asked = suc t.asked }; over = false }

-- one line; after 16 rows a row, and after 12 questions a question, is unreadable
unfoldable pub step_of : ℕ → Table → Item → Step
step_of n t (Row c p d) = cond (ltb (length t.rows) 48) (added t c p d) (unread n t)
step_of n t (Ask m) = cond (ltb t.asked 12) (answered t m) (unread n t)
step_of n t Unreadable = unread n t

-- the end of the input; where nothing was asked, it is answered like N = 0
abbrev pub closing : Table → List ℕ
closing t = cond (eqb t.asked 0) (answer_text t.rows 0) []

-- the lines from number n on
unfoldable pub answers_from : ℕ → Table → List Item → List ℕ
answers_from n t [] = closing t
answers_from n t (x ∷ l) = (step_of n t x).text ++ cond (step_of n t x).over [] (answers_from (suc n) (step_of n t x).table l)

-- the output for an input
unfoldable pub output_of : List ℕ → List ℕ
output_of input = answers_from 1 no_table (items_of (take input_limit input))

-- a buffer of this length holds every output: 12 answers of 37 lines, and a line for an unreadable one, of 86 bytes each
abbrev pub longest : ℕ
longest = 38270

-- the contract of `contest`
abbrev pub Answered : List ℕ → List ℕ → List ℕ → ℕ → Type 0
Answered input before after r = Filled longest (output_of input) before after r
