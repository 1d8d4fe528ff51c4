-- The whole text, and the entry point. Assumes nothing.
use Rattle.std.specs.Prelude.{ℕ, ◌+◌, ◌-◌, ◌≤◌, min, ◌≡◌, Bool, true, false, not, is_err, List, [], ◌++◌, eqb, length, take}
use Rattle.std.proofs.Common.{sym, ap, ◌∙◌, append-nil, arith, eq-eqb, eqb-true}
use Rattle.bounded.specs.Tests.{both}
use Rattle.decimal.specs.Buffer.{Wrote, wrote_length, wrote_more, wrote_within}
use Rattle.lines.specs.declared.read.Line.{Line}
use Rattle.lines.specs.Lines.{lines_of}
use Rattle.table.specs.Rows.{tasks_of}
use Rattle.table.specs.Verdict.{opinion_of}
use Rattle.table.specs.Opinion.{Says, refused_number}
use Rattle.report.specs.Text.{opinion_text}
use Rattle.report.specs.Whole.{filled_short, read_limit, room_from_kept, filled_from}
use Rattle.session.specs.declared.Session.{Session}
use Rattle.guarantee.specs.Ledger.{empty}
use Rattle.transcript.specs.declared.opening.Judged.{Judged}
use Rattle.transcript.specs.declared.opening.State.{State}
use Rattle.transcript.specs.Transcript.{input_limit, row_limit, rows_in}
use Rattle.transcript.specs.Table.{Stated}
use Rattle.transcript.specs.Opening.{opinion_in}
use Rattle.transcript.specs.Opens.{calls_by, table_in, Startable, started_by, Judges, Opens, judged_startable, started_opens, opens_admitted}
use Rattle.response.specs.Jobs.{items_text}
use Rattle.response.specs.Plan.{besides_text, items_from, items_of, printed_of, planned_of, room_for, Planned}
use Rattle.response.specs.Walk.{room_of, owed_first, Begun}

-- ---- the table, then the calls

-- what is printed of the calls
abbrev text_by : List ℕ → Session → List ℕ → ℕ → List Line → List ℕ
text_by l s q n x = items_text (items_from (tasks_of l) empty [] s q n x)

-- the table is admitted, and what is printed of it stands before j's end
pub record Calls (text : List ℕ) (j : Judged) (out : List ℕ) : Type 0 where
  pub limit : length text ≤ input_limit
  pub stated : Stated text j.rows
  pub says : Says j.opinion (opinion_in text)
  pub admitted : (opinion_in text).number ≡ 0
  pub end : j.end ≤ 28870
  pub room : room_of text ≤ length out

-- ---- `put_calls`

pub calls_startable : (text : List ℕ) (j : Judged) (out : List ℕ) → Calls text j out → Startable j
calls_startable text j out g = judged_startable text j g.stated g.says

module _ (text : List ℕ) (j : Judged) (out : List ℕ) (g : Calls text j out) (ws : List ℕ) (e : ws ≡ table_in j.rows) (t : State) (is : t ≡ started_by j) where
  rows_are : rows_in row_limit (lines_of text) ≡ ws
  rows_are = g.stated.rows ∙ sym e

  items_are : items_text (items_of (lines_of text)) ≡ calls_by (text_by ws) (lines_of text)
  unfolding items_of items_text
  items_are = rw rows_are (both (eqb (opinion_of ws).number 0) (λ t. simp t) (λ t. simp t))

  opens : Opens text t
  opens = started_opens text j g.stated g.says t is

  on : t.play.over ≡ false
  on = opens.over ∙ ap not (eq-eqb (opinion_in text).number 0 g.admitted)

  end_is : t.play.end ≡ j.end
  end_is = ap (λ (x : State). x.play.end) is

  pub calls_begun : Begun text ws t.at t.session t.play out
  calls_begun = record {
    limit = g.limit;
    place = opens.place;
    admitted = ap (λ (l : List ℕ). (opinion_of l).number) (sym rows_are) ∙ g.admitted;
    fresh = rw rows_are at (opens.admitted on).session;
    kept = (opens.admitted on).kept;
    from = opens.from;
    to = opens.to;
    line = opens.line;
    end = omega (arith, end_is, g.end);
    room = g.room;
  }

  pub calls_done : (after : List ℕ) (r : ℕ) → Wrote (room_of text - t.play.end) (owed_first text ws t.at t.session t.play) out after t.play.end r
      → Wrote (room_of text - j.end) (items_text (items_of (lines_of text))) out after j.end r
  calls_done after r v = rw (items_are, opens_admitted text t opens (text_by ws) on) (rw end_is at v)

pub ruleset calls_laws = (calls_startable, calls_begun, calls_done)

-- ---- `print`

module _ (text before middle : List ℕ) (j : Judged) (g : Judges text j before middle) (room : room_of text ≤ length before)
    (ws : List ℕ) (e : ws ≡ table_in j.rows) where
  table_is : rows_in row_limit (lines_of text) ≡ ws
  table_is = g.stated.rows ∙ sym e

  pub print_says : Says j.opinion (opinion_of ws)
  print_says = rw table_is at g.says

  refused_is : {b c : Bool} → b ≡ is_err j.opinion → b ≡ c → eqb (opinion_in text).number 0 ≡ not c
  refused_is {b} {c} e f = eqb_is (opinion_in text).number c (sym f ∙ e ∙ refused_number j.opinion ∙ ap (λ n. not (eqb n 0)) g.says.number)
    where
      eqb_is : (n : ℕ) (c : Bool) → c ≡ not (eqb n 0) → eqb n 0 ≡ not c
      eqb_is n c h = both (eqb n 0) (λ t. t ∙ ap not (sym (h ∙ ap not t))) (λ t. t ∙ ap not (sym (h ∙ ap not t)))

  pub print_room : j.end + 27392 ≤ length middle
  print_room =
      omega (arith, g.wrote.place, g.wrote.short, wrote_length 1478 _ before middle 0 j.end (omega (arith, g.wrote.short)) g.wrote)

  module _ (later : List ℕ) (end : ℕ) (w : Wrote 27392 (besides_text ws) middle later j.end end) where
    front : Wrote 28870 (opinion_text (opinion_in text) ++ besides_text (rows_in row_limit (lines_of text))) before later 0 end
    front = wrote_more 1478 27392 _ _ before middle later 0 j.end end (omega (arith, g.wrote.short)) g.wrote (rw table_is w)

    pub print_refused : (b : Bool) → b ≡ is_err j.opinion → b ≡ true → Wrote (room_of text) (printed_of (lines_of text)) before later 0 end
    unfolding printed_of items_of items_text
    print_refused b e t =
        simp (refused_is e t, append-nil) (wrote_within 28870 (room_of text) _ before later 0 end (omega arith) front)

    pub print_calls : length text ≤ input_limit → (b : Bool) → b ≡ is_err j.opinion → b ≡ false
        → Calls text (record { rows = j.rows; opinion = j.opinion; end = end }) later
    print_calls limit b e t = record {
      limit = limit;
      stated = g.stated;
      says = g.says;
      admitted = eqb-true (opinion_in text).number 0 (refused_is e t);
      end = omega (arith, front.place, front.short);
      room = omega (arith, wrote_length 28870 _ before later 0 end (omega (arith, front.short)) front);
    }

    pub print_done : (after : List ℕ) (r : ℕ) → Wrote (room_of text - end) (items_text (items_of (lines_of text))) later after end r
        → Wrote (room_of text) (printed_of (lines_of text)) before after 0 r
    unfolding printed_of
    print_done after r v =
        let y = wrote_more 28870 (room_of text - end) _ _ before later after 0 end r (omega (arith, front.short)) front v in
        record { buffer = y.buffer; place = y.place; short = omega (arith, y.place, v.place, v.short, front.place, front.short) }

pub ruleset print_laws = (print_says, print_room, print_refused, print_calls, print_done)

-- ---- the entry point

pub entry_printed : (input text before after : List ℕ) (k n r : ℕ) → k ≡ room_for (length input) → k ≤ length before → n ≡ min (length input) input_limit
    → text ≡ take n input → Wrote (room_of text) (printed_of (lines_of text)) before after 0 r → Planned input before after r
unfolding planned_of
entry_printed input text before after k n r d h e f p =
    filled_from input_limit input n e 31004 64 k r (λ (x : List ℕ). printed_of (lines_of x)) text before after d h f p

pub ruleset entry_cases = (filled_short, read_limit, room_from_kept, entry_printed)
