-- What the program `explained` prints (docs/EXPLANATIONS.md, the last section): each line that `shuffle` prints and, after each
-- choose that is accepted, the text of its explanation. Definitions only. Assumes nothing.
use Rattle.std.specs.Prelude.{ℕ, suc, ◌/◌, cond, List, [], ◌∷◌, ◌++◌, eqb, length, take}
use Rattle.lines.specs.declared.read.Call.TheVariants.{Arrive, Choose, Advance, Finish}
use Rattle.lines.specs.declared.read.Line.{Line}
use Rattle.lines.specs.declared.read.Line.TheVariants.{Row, Word, Call, Empty, Unreadable}
use Rattle.lines.specs.Lines.{lines_of}
use Rattle.table.specs.Verdict.{opinion_of}
use Rattle.report.specs.Text.{opinion_text}
use Rattle.session.specs.declared.Session.{Session}
use Rattle.session.specs.Start.{session_of}
use Rattle.session.specs.Calls.{shown, choose_of}
use Rattle.wording.specs.Text.{text_of}
use Rattle.explain.specs.Explain.{explanation_of}
use Rattle.transcript.specs.Step.{step_of}
use Rattle.transcript.specs.Transcript.{input_limit, row_limit, rows_in, after_rows}

-- what follows a line: the text of the explanation, of the session and the words waiting before the line, if it is a choose that
-- is accepted, number 0; nothing otherwise
unfoldable pub explanation_after : Session → List ℕ → Line → List ℕ
explanation_after s q (Row c t d) = []
explanation_after s q (Word w) = []
explanation_after s q (Call (Arrive row)) = []
explanation_after s q (Call Choose) = cond (eqb (shown (choose_of s q).answer).number 0) (text_of (explanation_of s q)) []
explanation_after s q (Call (Advance n)) = []
explanation_after s q (Call Finish) = []
explanation_after s q Empty = []
explanation_after s q Unreadable = []

-- one line: what `shuffle` prints of it, and what follows
unfoldable pub narrated_line : Session → List ℕ → ℕ → Line → List ℕ
narrated_line s q n x = (step_of s q n x).text ++ explanation_after s q x

-- the lines after the table, from line number n on
unfoldable pub narrated_lines : Session → List ℕ → ℕ → List Line → List ℕ
narrated_lines s q n [] = []
narrated_lines s q n (x ∷ l) =
    narrated_line s q n x
    ++ cond (step_of s q n x).ends [] (narrated_lines (step_of s q n x).session (step_of s q n x).queue (suc n) l)

-- the table, then the calls, from the line after the rows on; a refused table ends the output
unfoldable pub narrated_of : List Line → List ℕ
narrated_of l =
    opinion_text (opinion_of (rows_in row_limit l))
    ++ cond (eqb (opinion_of (rows_in row_limit l)).number 0)
    (narrated_lines (session_of (rows_in row_limit l)) [] (suc (length (rows_in row_limit l) / 3)) (after_rows row_limit l)) []

-- the output for an input
unfoldable pub narration_of : List ℕ → List ℕ
narration_of input = narrated_of (lines_of (take input_limit input))
