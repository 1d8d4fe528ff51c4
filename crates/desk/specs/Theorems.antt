-- The proofs of Statement.antt. Assumes nothing.
use Rattle.std.specs.Prelude.{ℕ, suc, ◌+◌, ◌*◌, ◌≤◌, ◌≡◌, false, List, [], ◌∷◌, ◌++◌, length}
use Rattle.std.proofs.Common.{sym, ◌∙◌, append_assoc, append-nil, arith, length-append, lt-ltb}
use Rattle.lines.specs.declared.read.Line.{Line}
use Rattle.lines.specs.declared.read.Line.TheVariants.{Empty}
use Rattle.table.specs.Verdict.{opinion_of}
use Rattle.report.specs.Text.{opinion_text}
use Rattle.report.specs.Rows.{row_lines, row_words}
use Rattle.desk.specs.Opinions.{Draft, no_draft, closing, step_of, answers_from}
use Rattle.desk.specs.Statement.{TablesApart, RowsJudged}

-- from any table at hand
apart_from : (n : ℕ) (t : Draft) (before after : List Line)
    → answers_from n t (before ++ Empty ∷ after) ≡ answers_from n t (before ++ Empty ∷ []) ++ answers_from (suc (n + length before)) no_draft after
unfolding answers_from step_of
apart_from n t [] after =
    let k : n + 0 ≡ n = omega arith in
    rw (k, append-nil (closing t))
apart_from n t (x ∷ l) after =
    let k : n + suc (length l) ≡ suc n + length l = omega arith in
    rw (k, apart_from (suc n) (step_of n t x).table l after) (sym (append_assoc (step_of n t x).text _ _))

pub tables_apart : TablesApart
tables_apart n before after = apart_from n no_draft before after

-- rows that are added to those of the table at hand
rows_from : (n : ℕ) (w : List ℕ) (rows : List (ℕ × ℕ × ℕ)) → length w + 3 * length rows ≤ 48 → 1 ≤ length w + length rows
    → answers_from n (record { rows = w; spoiled = false }) (row_lines rows) ≡ opinion_text (opinion_of (w ++ row_words rows)) ++ 10 ∷ []
unfolding answers_from step_of closing
rows_from n w [] h k = rw (lt-ltb 0 (length w) (omega arith), append-nil w)
rows_from n w (r ∷ l) h k =
    let more = rows_from (suc n) (w ++ r.0 ∷ r.1 ∷ r.2 ∷ []) l (simp length-append (omega arith)) (simp length-append (omega arith)) in
    simp (lt-ltb (length w) 48 (omega arith)) (more ∙ simp append_assoc)

pub rows_judged : RowsJudged
rows_judged n rows h k = rows_from n [] rows (omega arith) (omega arith)
