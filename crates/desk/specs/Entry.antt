-- The loop over the lines, and the entry point. Assumes nothing.
use Rattle.std.specs.Prelude.{ℕ, ◌+◌, ◌-◌, ◌*◌, ◌≤◌, ◌<◌, min, ◌≡◌, refl, false, take, drop}
use Rattle.std.proofs.Common.{sym, ◌∙◌, arith}
use Rattle.std.proofs.Math.Path.{ap}
use mathlib.Core.List.{List, [], ◌++◌}
use Rattle.std.proofs.Math.Numerals.{add-one}
use Rattle.std.proofs.Math.ListN.{length}
use Rattle.decimal.specs.Buffer.{Wrote, Owing, owing_start, owing_next, owing_last}
use Rattle.lines.specs.declared.read.Call.TheVariants.{Arrive, Choose, Advance, Finish}
use Rattle.lines.specs.declared.read.Line.{Line}
use Rattle.lines.specs.declared.read.Line.TheVariants.{Row, Word, Call, Empty, Unreadable}
use Rattle.lines.specs.declared.read.Next.{Next}
use Rattle.lines.specs.Lines.{lines_of, lines_end, least_size, size_some, Took}
use Rattle.report.specs.Whole.{filled_short, read_limit, room_kept, filled_printed}
use Rattle.desk.specs.declared.step.Progress.{Progress}
use Rattle.desk.specs.Opinions.{input_limit, no_draft, step_of, answers_from, output_of, room_for, Advised}
use Rattle.desk.specs.Step.{draft_of, Ready, ended_size, LineDid, last_text, Finished}

-- what is still to be written: the lines from place `at` on
abbrev pub owed : List ℕ → Progress → List ℕ → ℕ → List ℕ
owed text p w at = answers_from p.line (draft_of w p) (lines_of (drop at text))

abbrev all : List ℕ → List ℕ
all text = answers_from 1 no_draft (lines_of text)

-- the lines up to place `at` are done: p, the words and the buffer are what they led to. What is owed now, written to the buffer
-- as it is now, gives the same as all that was owed, written to the buffer as it was. Only the last line may have no newline.
pub record Reading (text first : List ℕ) (p : Progress) (w out : List ℕ) (at : ℕ) : Type 0 where
  pub limit : length text ≤ input_limit
  pub room : 1564 + 11 * length text ≤ length first
  pub place : at ≤ length text
  pub places : length w ≡ 48
  pub few : p.count ≤ 16
  pub line : p.line ≤ at + 1
  pub paid : at < length text → p.end + 88 * p.count ≤ 11 * at
  pub last : p.end + 88 * p.count ≤ 11 * at + 11
  pub owing : Owing (all text) first 0 (owed text p w at) out p.end

pub reading_start : (text first w : List ℕ) → length text ≤ input_limit → 1564 + 11 * length text ≤ length first → length w ≡ 48
    → Reading text first (record { count = 0; spoiled = false; line = 1; end = 0 }) w first 0
reading_start text first w limit room places = record {
  limit = limit;
  room = room;
  place = omega arith;
  places = places;
  few = omega arith;
  line = omega arith;
  paid = λ h. omega arith;
  last = omega arith;
  owing = owing_start (all text) first 0 _ refl;
}

-- ---- how many bytes a line takes

is_empty : Line → ℕ
is_empty (Row c t d) = 0
is_empty (Word w) = 0
is_empty (Call c) = 0
is_empty Empty = 1
is_empty Unreadable = 0

ended_size_lem : (x : Line) → ended_size x ≤ least_size x + 1
ended_size_lem (Row c t d) = omega arith
ended_size_lem (Word w) = omega arith
ended_size_lem (Call (Arrive row)) = omega arith
ended_size_lem (Call Choose) = omega arith
ended_size_lem (Call (Advance n)) = omega arith
ended_size_lem (Call Finish) = omega arith
ended_size_lem Empty = omega arith
ended_size_lem Unreadable = omega arith

ended : (text : List ℕ) (at : ℕ) (n : Next) → Took text at n → n.at < length text → at + ended_size n.line ≤ n.at
unfolding is_empty
ended text at n t h = by n.line refl
  where
    two : (x : Line) → is_empty x ≡ 0 → n.line ≡ x → at + 2 ≤ n.at
    two x z e = t.some (λ f. absurd (omega (arith, z, ap is_empty (sym e ∙ f)))) h

    by : (x : Line) → n.line ≡ x → at + ended_size x ≤ n.at
    by (Row c q d) e = rw e at t.size
    by (Word w) e = two (Word w) refl e
    by (Call c) e = two (Call c) refl e
    by Empty e = rw e at t.size
    by Unreadable e = two Unreadable refl e

pub reading_less : (text : List ℕ) (at : ℕ) (n : Next) → at < length text → Took text at n → length text - n.at < length text - at
reading_less text at n h t = omega (arith, t.size, t.within, size_some n.line)

-- ---- the loop

module _ (text first : List ℕ) (p : Progress) (w out : List ℕ) (at : ℕ) (now : Reading text first p w out at) where
  pub reading_ready : Ready p out
  reading_ready = record {
    few = now.few;
    line = omega (arith, now.line, now.place, now.limit);
    room = omega (arith, now.last, now.place, now.owing.same, now.room);
  }

  module _ (h : at < length text) (n : Next) (t : Took text at n) (r : Progress) (v after : List ℕ) (d : LineDid n.line p r w v out after) where
    owed_more : owed text p w at ≡ (step_of p.line (draft_of w p) n.line).text ++ owed text r v n.at
    unfolding answers_from
    owed_more = rw (t.lines, d.line, add-one, d.table)

    spent : r.end + 88 * r.count ≤ 11 * at + 11 * ended_size n.line
    spent = omega (arith, d.size, now.paid h)

    pub reading_next : Reading text first r v after n.at
    reading_next =
        let x = (step_of p.line (draft_of w p) n.line).text in
        let fits : p.end + length x ≤ length out = omega (arith, d.wrote.short, reading_ready.room) in
        record {
          limit = now.limit;
          room = now.room;
          place = t.within;
          places = d.places ∙ now.places;
          few = d.few;
          line = omega (arith, d.line, now.line, t.size, size_some n.line);
          paid = λ k. omega (arith, spent, ended text at n t k);
          last = omega (arith, spent, ended_size_lem n.line, t.size);
          owing = owing_next _ _ _ _ _ _ now.owing 1479 x (owed text r v n.at) after r.end owed_more fits d.wrote;
        }

  -- ---- the end of the input

  pub reading_end : (after : List ℕ) (r : ℕ) → length text ≤ at → Finished (last_text (draft_of w p)) p out after r → Wrote (1564 + 11 * length text) (all text) first after 0 r
  unfolding answers_from
  reading_end after r h f =
      let place : at ≡ length text = omega (arith, now.place) in
      let none : lines_of (drop at text) ≡ [] = ap (λ (k : ℕ). lines_of (drop k text)) place ∙ lines_end text in
      let rest : owed text p w at ≡ last_text (draft_of w p) = rw none in
      owing_last _ _ _ _ _ _ now.owing _ (1564 + 11 * length text) (last_text (draft_of w p)) after r rest f.wrote
      (omega (arith, now.owing.total, ap length rest, f.short, now.last, place))

pub ruleset reading_laws = (reading_start, reading_less, reading_ready, reading_next, reading_end)

-- ---- the entry point

pub entry_printed : (input text before after : List ℕ) (k n r : ℕ) → k ≡ room_for (length input) → k ≤ length before → n ≡ min (length input) input_limit
    → text ≡ take n input → Wrote (1564 + 11 * length text) (all text) before after 0 r → Advised input before after r
unfolding output_of
entry_printed input text before after k n r d h e f p =
    filled_printed input_limit input n e 11 k r all text before after d h f p

pub ruleset entry_cases = (filled_short, read_limit, room_kept, entry_printed)
