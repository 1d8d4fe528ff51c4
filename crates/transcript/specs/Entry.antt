-- The whole text, and the entry point. Assumes nothing.
use Rattle.std.specs.Prelude.{ℕ, ◌-◌, ◌≤◌, min, ◌≡◌, true, false, length, take, drop}
use mathlib.Core.List.{List, []}
use Rattle.std.proofs.Common.{arith}
use Rattle.decimal.specs.Buffer.{Wrote, wrote_more, wrote_within, wrote_length}
use Rattle.lines.specs.Lines.{lines_of}
use Rattle.report.specs.Text.{opinion_text}
use Rattle.report.specs.Whole.{filled_short, read_limit, room_kept, filled_printed}
use Rattle.transcript.specs.declared.opening.State.{State}
use Rattle.transcript.specs.Transcript.{input_limit, printed_of, output_of, room_for, Transcribed}
use Rattle.transcript.specs.Step.{calls_text}
use Rattle.transcript.specs.Opening.{opinion_in, Opened, opened_refused, opened_admitted}
use Rattle.transcript.specs.Plays.{room_of, Begun, owed}

-- ---- the table, then the calls

module _ (text : List ℕ) (t : State) (before middle : List ℕ) (o : Opened text t before middle) where
  pub print_refused : t.play.over ≡ true → Wrote (room_of text) (printed_of (lines_of text)) before middle 0 t.play.end
  unfolding printed_of
  print_refused e =
      rw (opened_refused text t before middle o calls_text e)
      (wrote_within 1478 (room_of text) (opinion_text (opinion_in text)) before middle 0 t.play.end (omega arith) o.wrote)

  module _ (e : t.play.over ≡ false) (k : room_of text ≤ length before) where
    pub print_begun : length text ≤ input_limit → Begun text t.at t.session t.play middle
    print_begun h = record {
      limit = h;
      place = o.place;
      kept = (o.admitted e).kept;
      from = o.from;
      to = o.to;
      line = o.line;
      end = omega (arith, o.wrote.place, o.wrote.short);
      room = omega (arith, wrote_length 1478 (opinion_text (opinion_in text)) before middle 0 t.play.end (omega (arith, o.wrote.short)) o.wrote);
    }

    pub print_calls : (after : List ℕ) (r : ℕ)
        → Wrote (room_of text - t.play.end) (owed text t.session t.play [] t.at) middle after t.play.end r
        → Wrote (room_of text) (printed_of (lines_of text)) before after 0 r
    unfolding printed_of
    print_calls after r v =
        let w = o.wrote in
        let none : owed text t.session t.play [] t.at ≡ calls_text t.session [] t.play.line (lines_of (drop t.at text)) =
        rw (o.from, o.to) in
        let y = wrote_more 1478 (room_of text - t.play.end) (opinion_text (opinion_in text)) (owed text t.session t.play [] t.at)
        before middle after 0 t.play.end r (omega (arith, w.short)) w v in
        rw (opened_admitted text t before middle o calls_text e, ← none)
        (record { buffer = y.buffer; place = y.place; short = omega (arith, y.place, v.place, v.short, w.place, w.short) })

pub ruleset print_laws = (print_refused, print_begun, print_calls)

-- ---- the entry point

pub entry_printed : (input text before after : List ℕ) (k n r : ℕ) → k ≡ room_for (length input) → k ≤ length before → n ≡ min (length input) input_limit
    → text ≡ take n input → Wrote (room_of text) (printed_of (lines_of text)) before after 0 r → Transcribed input before after r
unfolding output_of
entry_printed input text before after k n r d h e f p =
    filled_printed input_limit input n e 22 k r (λ (x : List ℕ). printed_of (lines_of x)) text before after d h f p

pub ruleset entry_cases = (filled_short, read_limit, room_kept, entry_printed)
