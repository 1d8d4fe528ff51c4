-- From the table to the calls. Assumes nothing.
use Rattle.std.specs.Prelude.{ℕ, suc, ◌+◌, ◌*◌, ◌/◌, ◌≤◌, ◌≡◌, refl, true, false, not, cond, Result, List, [], ◌++◌, eqb, take, drop}
use Rattle.std.proofs.Common.{sym, subst, ◌∙◌, append-nil, arith, length-take-le, eqb-true}
use Rattle.std.proofs.Math.Path.{ap}
use Rattle.std.proofs.Math.ListN.{length}
use Rattle.std.proofs.lemmas.Bool.{not-true, not-false}
use Rattle.decimal.specs.Buffer.{Wrote}
use Rattle.lines.specs.declared.read.Line.{Line}
use Rattle.lines.specs.Lines.{lines_of}
use Rattle.table.specs.declared.Numbers.{Numbers}
use Rattle.table.specs.Rows.{tasks_of}
use Rattle.table.specs.Verdict.{Opinion, opinion_of}
use Rattle.table.specs.declared.Judgement.{Judgement}
use Rattle.table.specs.declared.Refusal.{Refusal}
use Rattle.table.specs.Opinion.{shown_of, Shows, shows_of}
use Rattle.table.proofs.TheoremsLaws.{opinion_admitted}
use Rattle.report.specs.Text.{opinion_text}
use Rattle.report.specs.Put.{Reported}
use Rattle.session.specs.declared.Session.{Session}
use Rattle.session.specs.Start.{no_session, start_of, session_of, start_says}
use Rattle.guarantee.specs.Good.{Good}
use Rattle.guarantee.specs.KeepsFresh.{good_fresh}
use Rattle.transcript.specs.declared.rows.Rows.{Rows}
use Rattle.transcript.specs.declared.opening.State.{State}
use Rattle.transcript.specs.Transcript.{row_limit, rows_in, after_rows}
use Rattle.transcript.specs.Table.{Stated}
use Rattle.transcript.specs.Kept.{Kept}

-- the opinion on the table that a text states
abbrev pub opinion_in : List ℕ → Opinion
opinion_in text = opinion_of (rows_in row_limit (lines_of text))

-- what is printed of lines: the opinion on the table and, if it is admitted, what f prints of its session, the words waiting, the
-- number of the next line and the lines after the table
abbrev pub printed_by : (Session → List ℕ → ℕ → List Line → List ℕ) → List Line → List ℕ
printed_by f l =
    opinion_text (opinion_of (rows_in row_limit l))
    ++ cond (eqb (opinion_of (rows_in row_limit l)).number 0)
    (f (session_of (rows_in row_limit l)) [] (suc (length (rows_in row_limit l) / 3)) (after_rows row_limit l)) []

-- r is where the calls of the text start
pub record Admitted (text : List ℕ) (r : State) : Type 0 where
  pub session : r.session ≡ session_of (rows_in row_limit (lines_of text))
  pub rest : after_rows row_limit (lines_of text) ≡ lines_of (drop r.at text)
  pub count : suc (length (rows_in row_limit (lines_of text)) / 3) ≡ r.play.line
  pub kept : Kept r.session

-- the opinion was printed
pub record Opened (text : List ℕ) (r : State) (before after : List ℕ) : Type 0 where
  pub wrote : Wrote 1478 (opinion_text (opinion_in text)) before after 0 r.play.end
  pub over : r.play.over ≡ not (eqb (opinion_in text).number 0)
  pub admitted : r.play.over ≡ false → Admitted text r
  pub place : r.at ≤ length text
  pub from : r.play.from ≡ 0
  pub to : r.play.to ≡ 0
  pub line : r.play.line ≤ r.at + 1

-- ---- what is left to print

module _ (text : List ℕ) (r : State) (before after : List ℕ) (o : Opened text r before after) (f : Session → List ℕ → ℕ → List Line → List ℕ) where
  -- a refused table ends the output
  pub opened_refused : r.play.over ≡ true → printed_by f (lines_of text) ≡ opinion_text (opinion_in text)
  opened_refused e = rw (not-true (eqb (opinion_in text).number 0) (sym o.over ∙ e)) (append-nil _)

  pub opened_admitted : r.play.over ≡ false
      → printed_by f (lines_of text) ≡ opinion_text (opinion_in text) ++ f r.session [] r.play.line (lines_of (drop r.at text))
  opened_admitted e =
      let a = o.admitted e in
      rw (not-false (eqb (opinion_in text).number 0) (sym o.over ∙ e), a.rest, a.count, ← a.session)

-- ---- the code

module _ (text : List ℕ) (t : Rows) (st : Stated text t) (ws : List ℕ) (e : ws ≡ take (3 * t.count) t.words) (j : Result Judgement Refusal) (op : shown_of j ≡ opinion_of ws) where
  rows_are : rows_in row_limit (lines_of text) ≡ ws
  rows_are = st.rows ∙ sym e

  opinion_is : opinion_in text ≡ shown_of j
  opinion_is = ap opinion_of rows_are ∙ sym op

  -- three numbers to a row
  rows_count : length ws ≡ 3 * t.count
  rows_count = ap length e ∙ length-take-le (3 * t.count) t.words (omega (arith, st.places, st.few))

  -- an admitted table's second value is its number of rows
  pub second_is : (shown_of j).number ≡ 0 → (shown_of j).second ≡ t.count
  unfolding tasks_of
  second_is z =
      ap (λ (x : Opinion). x.second) op
      ∙ (opinion_admitted ws (sym (ap (λ (x : Opinion). x.number) op) ∙ z)).1
      ∙ omega (arith, rows_count)

  module _ (n : Numbers) (sh : Shows j n) (before after : List ℕ) (end : ℕ) (x : Reported (shown_of j) t.count before after 0 end)
      (s₀ s : Session) (e₀ : s₀ ≡ no_session) (is : s ≡ start_of s₀ ws) where
    -- the calls start from the fresh session, with no words, at the line after the rows
    abbrev first : State
    first = record {
      session = s;
      play = record { from = 0; to = 0; line = t.count + 1; end = end; over = not (eqb n.number 0) };
      at = t.at;
    }

    number_is : (opinion_in text).number ≡ n.number
    number_is = ap (λ (y : Opinion). y.number) (opinion_is ∙ shows_of j n sh)

    good : eqb n.number 0 ≡ true → Good ws s
    good z = rw is (good_fresh ws (ap (λ (l : List ℕ). (opinion_of l).number) (sym rows_are) ∙ number_is ∙ eqb-true n.number 0 z) s₀)

    pub opening_done : Opened text first before after
    opening_done = record {
      wrote = rw opinion_is x.wrote;
      over = rw number_is;
      admitted = λ z.
          let g = good (not-false (eqb n.number 0) z) in
          record {
            session = rw (is, e₀, rows_are);
            rest = st.rest;
            count = omega (arith, ap length rows_are, rows_count);
            kept = subst (λ (y : List ℕ). Good y s) (sym g.rows) g;
          };
      place = st.within;
      from = refl;
      to = refl;
      line = omega (arith, st.size);
    }

pub ruleset opening_laws = (second_is, start_says, opening_done)
