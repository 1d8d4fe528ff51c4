-- The output of `explained` line by line, to state what is in it. Definitions only. Assumes nothing.
use Rattle.std.specs.Prelude.{ℕ, suc, ◌/◌, ◌≡◌, true, false, cond, List, [], ◌∷◌, ◌++◌, eqb, length, take}
use Rattle.lines.specs.declared.read.Line.{Line}
use Rattle.table.specs.Verdict.{opinion_of}
use Rattle.report.specs.Text.{opinion_text}
use Rattle.session.specs.declared.Session.{Session}
use Rattle.session.specs.Start.{session_of}
use Rattle.transcript.specs.declared.opening.State.{State}
use Rattle.transcript.specs.Step.{step_of}
use Rattle.transcript.specs.Transcript.{row_limit, rows_in, after_rows}
use Rattle.narration.specs.Narration.{explanation_after}
use Rattle.narration.specs.Telling.{Continued}

-- a line that is answered, its number, and the session and the words waiting before it
pub record Moment : Type 0 where
  pub session : Session
  pub queue : List ℕ
  pub number : ℕ
  pub line : Line

-- the lines from number n on, up to the first that ends the output
unfoldable pub moments_from : Session → List ℕ → ℕ → List Line → List Moment
moments_from s q n [] = []
moments_from s q n (x ∷ l) =
    record { session = s; queue = q; number = n; line = x }
    ∷ cond (step_of s q n x).ends [] (moments_from (step_of s q n x).session (step_of s q n x).queue (suc n) l)

-- those after the table, if it is admitted
unfoldable pub moments_of : List Line → List Moment
moments_of l =
    cond (eqb (opinion_of (rows_in row_limit l)).number 0)
    (moments_from (session_of (rows_in row_limit l)) [] (suc (length (rows_in row_limit l) / 3)) (after_rows row_limit l)) []

-- what `shuffle` prints of the line
abbrev pub answer_at : Moment → List ℕ
answer_at m = (step_of m.session m.queue m.number m.line).text

-- the explanation after it
abbrev pub explanation_at : Moment → List ℕ
explanation_at m = explanation_after m.session m.queue m.line

-- what is printed of the table
abbrev pub table_text : List Line → List ℕ
table_text l = opinion_text (opinion_of (rows_in row_limit l))

-- what f gives of each, one after another
unfoldable pub joined : (Moment → List ℕ) → List Moment → List ℕ
joined f [] = []
joined f (m ∷ l) = f m ++ joined f l

-- calls of `more` from a state and words on, until all is told, each with the state and the words that the one before left, and
-- what they write
pub data Calls (text : List ℕ) : State → List ℕ → List ℕ → Type 0 where
  done : {t : State} {words : List ℕ} → t.play.over ≡ true → Calls text t words []
  again : {t r : State} {words words' out rest : List ℕ} → t.play.over ≡ false → Continued text t r words words' out → Calls text r words' rest
      → Calls text t words (take r.play.end out ++ rest)
