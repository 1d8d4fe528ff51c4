-- `opinions` and `shuffle` say the same of a table (docs/SPECIFICATION.md §8.6). Statements only.
use Rattle.std.specs.Prelude.{ℕ, ◌≤◌, ◌≡◌, List, [], ◌∷◌, ◌++◌, length}
use Rattle.report.specs.Rows.{row_lines}
use Rattle.transcript.specs.Transcript.{printed_of}
use Rattle.desk.specs.Opinions.{no_draft, answers_from}

-- OF 1 TO 16 ROWS `opinions` PRINTS WHAT `shuffle` PRINTS OF THEM ALONE, and an empty line
abbrev pub AsShuffle : Type 0
AsShuffle =
    (n : ℕ) (rows : List (ℕ × ℕ × ℕ)) → 1 ≤ length rows → length rows ≤ 16
    → answers_from n no_draft (row_lines rows) ≡ printed_of (row_lines rows) ++ 10 ∷ []
