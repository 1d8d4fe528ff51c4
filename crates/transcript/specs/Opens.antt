-- The code from the table to the calls: `begin` in two halves, for `response`, which prints more between them. Assumes nothing.
use Rattle.std.specs.Prelude.{ℕ, suc, ◌+◌, ◌*◌, ◌/◌, ◌≤◌, ◌≡◌, refl, Bool, true, false, not, cond, Result, is_err, List, [], eqb, take, drop}
use Rattle.std.proofs.Common.{sym, subst, ◌∙◌, arith, length-take-le, eqb-true}
use Rattle.std.proofs.Math.Path.{ap}
use Rattle.std.proofs.Math.ListN.{length}
use Rattle.std.proofs.lemmas.Bool.{not-true, not-false}
use Rattle.decimal.specs.Buffer.{Wrote}
use Rattle.lines.specs.declared.read.Line.{Line}
use Rattle.lines.specs.Lines.{lines_of}
use Rattle.table.specs.Verdict.{opinion_of}
use Rattle.table.specs.declared.Judgement.{Judgement}
use Rattle.table.specs.declared.Refusal.{Refusal}
use Rattle.table.specs.Opinion.{shown_of, Says, says_of, refused_number}
use Rattle.report.specs.Text.{opinion_text}
use Rattle.report.specs.Put.{Reported}
use Rattle.session.specs.declared.Session.{Session}
use Rattle.session.specs.Start.{no_session, start_of, session_of}
use Rattle.guarantee.specs.Good.{Good}
use Rattle.guarantee.specs.KeepsFresh.{good_fresh}
use Rattle.transcript.specs.declared.rows.Rows.{Rows}
use Rattle.transcript.specs.declared.opening.State.{State}
use Rattle.transcript.specs.declared.opening.Judged.{Judged}
use Rattle.transcript.specs.Transcript.{row_limit, rows_in, after_rows}
use Rattle.transcript.specs.Table.{Stated}
use Rattle.transcript.specs.Opening.{opinion_in, Admitted, Opened, second_is}

-- what f prints of the session of the table, if it is admitted, of the words waiting, the number of the next line and the lines after
-- the table
abbrev pub calls_by : (Session → List ℕ → ℕ → List Line → List ℕ) → List Line → List ℕ
calls_by f l =
    cond (eqb (opinion_of (rows_in row_limit l)).number 0)
    (f (session_of (rows_in row_limit l)) [] (suc (length (rows_in row_limit l) / 3)) (after_rows row_limit l)) []

-- the numbers of rows that were read
abbrev pub table_in : Rows → List ℕ
table_in t = take (3 * t.count) t.words

-- the opinion on the table of the text was printed, and j has the table and the opinion
pub record Judges (text : List ℕ) (j : Judged) (before after : List ℕ) : Type 0 where
  pub stated : Stated text j.rows
  pub says : Says j.opinion (opinion_in text)
  pub wrote : Wrote 1478 (opinion_text (opinion_in text)) before after 0 j.end

-- j has a table and the opinion on it
pub record Startable (j : Judged) : Type 0 where
  pub few : j.rows.count ≤ 16
  pub places : length j.rows.words ≡ 48
  pub says : Says j.opinion (opinion_of (table_in j.rows))

-- the calls start from the fresh session, with no words, at the line after the rows
abbrev pub started_by : Judged → State
started_by j = record {
  session = start_of no_session (table_in j.rows);
  play = record { from = 0; to = 0; line = j.rows.count + 1; end = j.end; over = not (eqb (shown_of j.opinion).number 0) };
  at = j.rows.at;
}

-- three numbers to a row
table_count : (text : List ℕ) (t : Rows) → Stated text t → length (table_in t) ≡ 3 * t.count
table_count text t st = length-take-le (3 * t.count) t.words (omega (arith, st.places, st.few))

-- r is where output goes on, or has ended
pub record Opens (text : List ℕ) (r : State) : Type 0 where
  pub over : r.play.over ≡ not (eqb (opinion_in text).number 0)
  pub admitted : r.play.over ≡ false → Admitted text r
  pub place : r.at ≤ length text
  pub from : r.play.from ≡ 0
  pub to : r.play.to ≡ 0
  pub line : r.play.line ≤ r.at + 1

-- ---- what is left to print

module _ (text : List ℕ) (r : State) (o : Opens text r) (f : Session → List ℕ → ℕ → List Line → List ℕ) where
  -- a refused table ends the output
  pub opens_refused : r.play.over ≡ true → calls_by f (lines_of text) ≡ []
  opens_refused e = rw (not-true (eqb (opinion_in text).number 0) (sym o.over ∙ e))

  pub opens_admitted : r.play.over ≡ false → calls_by f (lines_of text) ≡ f r.session [] r.play.line (lines_of (drop r.at text))
  opens_admitted e =
      let a = o.admitted e in
      rw (not-false (eqb (opinion_in text).number 0) (sym o.over ∙ e), a.rest, a.count, ← a.session)

-- ---- `judge`

module _ (text : List ℕ) (t : Rows) (st : Stated text t) (ws : List ℕ) (e : ws ≡ table_in t) (j : Result Judgement Refusal) (op : shown_of j ≡ opinion_of ws) where
  opinion_is : opinion_in text ≡ shown_of j
  opinion_is = ap opinion_of (st.rows ∙ sym e) ∙ sym op

  pub judged : (before after : List ℕ) (end : ℕ) → Reported (shown_of j) t.count before after 0 end
      → Judges text (record { rows = t; opinion = j; end = end }) before after
  judged before after end x = record {
    stated = st;
    says = rw opinion_is (says_of j (shown_of j) refl);
    wrote = rw opinion_is x.wrote;
  }

pub ruleset judge_laws = (second_is, judged)

-- ---- `started`

pub started_says : (j : Judged) (ws : List ℕ) → ws ≡ table_in j.rows → Startable j → Says j.opinion (opinion_of ws)
started_says j ws e h = rw e h.says

pub started_is : (j : Judged) (ws : List ℕ) (over : Bool) (s₀ s : Session) → ws ≡ table_in j.rows → over ≡ is_err j.opinion → s₀ ≡ no_session → s ≡ start_of s₀ ws
    → record {
      session = s;
      play = record { from = 0; to = 0; line = j.rows.count + 1; end = j.end; over = over };
      at = j.rows.at;
    }
    ≡ started_by j
started_is j ws over s₀ s e h z is = rw (h, refused_number j.opinion, is, z, e)

pub ruleset started_laws = (started_says, started_is)

-- ---- `begin`

module _ (text : List ℕ) (j : Judged) (st : Stated text j.rows) (says : Says j.opinion (opinion_in text)) where
  pub judged_startable : Startable j
  judged_startable = record { few = st.few; places = st.places; says = rw (← st.rows) says }

  -- whatever else was printed
  pub started_opens : (r : State) → r ≡ started_by j → Opens text r
  started_opens r e = rw e record {
    over = rw says.number;
    admitted = λ z.
        let admitted = sym says.number ∙ eqb-true (shown_of j.opinion).number 0 (not-false _ z) in
        let g = good_fresh (rows_in row_limit (lines_of text)) admitted no_session in
        let same = st.rows in
        record {
          session = rw same;
          rest = st.rest;
          count = omega (arith, ap length same, table_count text j.rows st);
          kept = rw (← same) (subst (λ (y : List ℕ). Good y (start_of no_session (rows_in row_limit (lines_of text)))) (sym g.rows) g);
        };
    place = st.within;
    from = refl;
    to = refl;
    line = omega (arith, st.size);
  }

pub begin_done : (text : List ℕ) (j : Judged) (r : State) (before after : List ℕ) → Judges text j before after → r ≡ started_by j → Opened text r before after
begin_done text j r before after g e =
    let o = started_opens text j g.stated g.says r e in
    record { wrote = rw e g.wrote; over = o.over; admitted = o.admitted; place = o.place; from = o.from; to = o.to; line = o.line }

pub begin_starts : (text : List ℕ) (j : Judged) (before after : List ℕ) → Judges text j before after → Startable j
begin_starts text j before after g = judged_startable text j g.stated g.says

pub ruleset begin_laws = (begin_starts, begin_done)
