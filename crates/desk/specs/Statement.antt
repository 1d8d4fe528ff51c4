-- What is shown of the opinions on many tables (docs/SPECIFICATION.md §8.6). Statements only.
use Rattle.std.specs.Prelude.{ℕ, suc, ◌+◌, ◌≤◌, ◌≡◌, List, [], ◌∷◌, ◌++◌, length}
use Rattle.lines.specs.declared.read.Line.{Line}
use Rattle.lines.specs.declared.read.Line.TheVariants.{Empty}
use Rattle.table.specs.Verdict.{opinion_of}
use Rattle.report.specs.Text.{opinion_text}
use Rattle.report.specs.Rows.{row_lines, row_words}
use Rattle.desk.specs.Opinions.{no_draft, answers_from}

-- A TABLE SPOILS NO OTHER: what is printed of the lines after an empty line is what would be printed of them alone, but for the
-- numbers of lines; and what is printed before it does not depend on them
abbrev pub TablesApart : Type 0
TablesApart =
    (n : ℕ) (before after : List Line)
    → answers_from n no_draft (before ++ Empty ∷ after)
    ≡ answers_from n no_draft (before ++ Empty ∷ []) ++ answers_from (suc (n + length before)) no_draft after

-- OF 1 TO 16 ROWS THE OPINION IS PRINTED, and an empty line
abbrev pub RowsJudged : Type 0
RowsJudged =
    (n : ℕ) (rows : List (ℕ × ℕ × ℕ)) → 1 ≤ length rows → length rows ≤ 16
    → answers_from n no_draft (row_lines rows) ≡ opinion_text (opinion_of (row_words rows)) ++ 10 ∷ []
