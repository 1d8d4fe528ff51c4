-- Rows and what follows them; what `shuffle` prints of rows alone is the opinion on them (docs/SPECIFICATION.md §8.4). Assumes nothing.
use Rattle.std.specs.Prelude.{ℕ, zero, suc, ◌-◌, ◌≤◌, ◌≡◌, refl, Bool, true, false, cond, List, [], ◌∷◌, ◌++◌, length}
use Rattle.std.proofs.Common.{sym, ap, ◌∙◌, append-nil, arith}
use Rattle.lines.specs.declared.read.Line.{Line}
use Rattle.table.specs.Verdict.{opinion_of}
use Rattle.report.specs.Text.{opinion_text}
use Rattle.report.specs.Rows.{row_lines, row_words}
use Rattle.transcript.specs.Step.{calls_text}
use Rattle.transcript.specs.Transcript.{row_limit, rows_in, after_rows, printed_of}
use Rattle.transcript.specs.Table.{rows_none, after_none}

module _ (l : List Line) where
  pub rows_then : (k : ℕ) (rows : List (ℕ × ℕ × ℕ)) → length rows ≤ k → rows_in k (row_lines rows ++ l) ≡ row_words rows ++ rows_in (k - length rows) l
  rows_then k [] h = let e : k - 0 ≡ k = omega arith in rw e
  rows_then zero (r ∷ m) h = absurd (omega arith)
  rows_then (suc k) (r ∷ m) h = let e : suc k - suc (length m) ≡ k - length m = omega arith in rw (e, rows_then k m (omega arith))

  pub after_then : (k : ℕ) (rows : List (ℕ × ℕ × ℕ)) → length rows ≤ k → after_rows k (row_lines rows ++ l) ≡ after_rows (k - length rows) l
  after_then k [] h = let e : k - 0 ≡ k = omega arith in rw e
  after_then zero (r ∷ m) h = absurd (omega arith)
  after_then (suc k) (r ∷ m) h = let e : suc k - suc (length m) ≡ k - length m = omega arith in rw (e, after_then k m (omega arith))

pub either_none : (b : Bool) → ◌≡◌ {A = List ℕ} (cond b [] []) []
either_none true = refl
either_none false = refl

pub rows_alone : (rows : List (ℕ × ℕ × ℕ)) → length rows ≤ row_limit → printed_of (row_lines rows) ≡ opinion_text (opinion_of (row_words rows))
unfolding printed_of calls_text
rows_alone rows h =
    let words : rows_in row_limit (row_lines rows) ≡ row_words rows =
    ap (rows_in row_limit) (sym (append-nil (row_lines rows)))
    ∙ rows_then [] row_limit rows h
    ∙ ap (λ (m : List ℕ). row_words rows ++ m) (rows_none (row_limit - length rows))
    ∙ append-nil (row_words rows) in
    let rest : after_rows row_limit (row_lines rows) ≡ [] =
    ap (after_rows row_limit) (sym (append-nil (row_lines rows))) ∙ after_then [] row_limit rows h ∙ after_none (row_limit - length rows) in
    rw (words, rest) (rw (either_none _) (append-nil _))
