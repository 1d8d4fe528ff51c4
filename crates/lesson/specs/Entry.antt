-- The loop over the lines, and the entry point. Assumes nothing.
use Rattle.std.specs.Prelude.{ℕ, ◌+◌, ◌-◌, ◌*◌, ◌≤◌, ◌<◌, min, ◌≡◌, refl, true, false, cond, take, drop}
use Rattle.std.proofs.Math.Path.{ap}
use Rattle.std.proofs.Common.{subst, ◌∙◌, arith}
use mathlib.Core.List.{List, [], ◌++◌, append-nil}
use Rattle.std.proofs.Math.Numerals.{add-one}
use Rattle.std.proofs.Math.ListN.{length}
use Rattle.decimal.specs.Buffer.{Wrote, Owing, owing_start, owing_next, owing_last}
use Rattle.lines.specs.Lines.{lines_none}
use Rattle.report.specs.Whole.{printed, filled_short, limit_is, read_limit}
use Rattle.lesson.specs.declared.item.Item.TheVariants.{Unreadable}
use Rattle.lesson.specs.declared.item.Next.{Next}
use Rattle.lesson.specs.declared.step.Progress.{Progress}
use Rattle.lesson.specs.Item.{item_of, items_of}
use Rattle.lesson.specs.Lesson.{input_limit, no_table, step_of, closing, answers_from, output_of, longest, Answered}
use Rattle.lesson.specs.Read.{Took}
use Rattle.lesson.specs.Step.{table_of, Ready, ItemDid, Finished}

-- what is still to be written: the lines from place `at` on
abbrev pub owed : List ℕ → Progress → List ℕ → ℕ → List ℕ
owed text p w at = answers_from p.line (table_of w p) (items_of (drop at text))

abbrev all : List ℕ → List ℕ
all text = answers_from 1 no_table (items_of text)

-- the lines up to place `at` are done: p, the words and the buffer are what they led to
pub record Reading (text first : List ℕ) (p : Progress) (w out : List ℕ) (at : ℕ) : Type 0 where
  pub limit : length text ≤ input_limit
  pub room : longest ≤ length first
  pub place : at ≤ length text
  pub places : length w ≡ 48
  pub few : p.count ≤ 16
  pub asks : p.asked ≤ 12
  pub line : p.line ≤ at + 1
  pub paid : p.end ≤ 3182 * p.asked
  pub owing : Owing (all text) first 0 (owed text p w at) out p.end

pub reading_start : (text first w : List ℕ) → length text ≤ input_limit → longest ≤ length first → length w ≡ 48
    → Reading text first (record { count = 0; asked = 0; line = 1; end = 0; over = false }) w first 0
reading_start text first w limit room places = record {
  limit = limit;
  room = room;
  place = omega arith;
  places = places;
  few = omega arith;
  asks = omega arith;
  line = omega arith;
  paid = omega arith;
  owing = owing_start (all text) first 0 _ refl;
}

pub reading_less : (text : List ℕ) (at : ℕ) (n : Next) → at < length text → Took text at n → length text - n.at < length text - at
reading_less text at n h t = omega (arith, t.later, t.within)

module _ (text first : List ℕ) (p : Progress) (w out : List ℕ) (at : ℕ) (now : Reading text first p w out at) where
  pub reading_ready : Ready p out
  reading_ready = record {
    few = now.few;
    asks = now.asks;
    line = omega (arith, now.line, now.place, now.limit);
    room = omega (arith, now.paid, now.owing.same, now.room);
  }

  module _ (n : Next) (t : Took text at n) (r : Progress) (v after : List ℕ) (d : ItemDid n.item p r w v out after) where
    owed_more : owed text p w at ≡ (step_of p.line (table_of w p) n.item).text ++ cond r.over [] (owed text r v n.at)
    unfolding answers_from
    owed_more = rw (t.items, d.line, add-one, d.table, d.over)

    pub reading_next : r.over ≡ false → Reading text first r v after n.at
    reading_next f =
        let x = (step_of p.line (table_of w p) n.item).text in
        let rest : owed text p w at ≡ x ++ owed text r v n.at = owed_more ∙ simp f in
        let fits : p.end + length x ≤ length out = omega (arith, d.last, d.asks, now.paid, now.owing.same, now.room) in
        record {
          limit = now.limit;
          room = now.room;
          place = t.within;
          places = d.places ∙ now.places;
          few = d.few;
          asks = d.asks;
          line = omega (arith, d.line, now.line, t.later);
          paid = omega (arith, d.wrote.place, d.size f, now.paid);
          owing = owing_next _ _ _ _ _ _ now.owing 3182 x (owed text r v n.at) after r.end rest fits d.wrote;
        }

    -- an unreadable line ends the output
    pub reading_over : r.over ≡ true → Wrote longest (all text) first after 0 r.end
    reading_over o =
        let x = (step_of p.line (table_of w p) n.item).text in
        let rest : owed text p w at ≡ x = owed_more ∙ simp (o, append-nil) in
        owing_last _ _ _ _ _ _ now.owing 3182 longest x after r.end rest d.wrote
        (omega (arith, now.owing.total, ap length rest, d.last, d.asks, now.paid))

  -- the end of the input
  pub reading_end : (after : List ℕ) (r : ℕ) → length text ≤ at → Finished p w out after r → Wrote longest (all text) first after 0 r
  unfolding answers_from items_of
  reading_end after r h f =
      let place : at ≡ length text = omega (arith, now.place) in
      let none : items_of (drop at text) ≡ [] = ap (λ (k : ℕ). items_of (drop k text)) place ∙ lines_none item_of Unreadable text in
      let rest : owed text p w at ≡ closing (table_of w p) = ap (answers_from p.line (table_of w p)) none in
      owing_last _ _ _ _ _ _ now.owing 3182 longest (closing (table_of w p)) after r rest f.wrote
      (omega (arith, now.owing.total, ap length rest, f.short, now.paid))

pub ruleset reading_laws = (reading_start, reading_less, reading_ready, reading_next, reading_over, reading_end)

-- ---- the entry point

pub entry_printed : (input text before after : List ℕ) (n r : ℕ) → longest ≤ length before → n ≡ min (length input) input_limit → text ≡ take n input
    → Wrote longest (all text) before after 0 r → Answered input before after r
unfolding output_of
entry_printed input text before after n r h e f p =
    printed h (subst (λ (x : List ℕ). Wrote longest (all x) before after 0 r) (f ∙ limit_is input_limit input n e) p)

pub entry_short : (input before : List ℕ) → length before < longest → Answered input before before 0
entry_short input before h = filled_short longest longest (output_of input) before refl h

pub ruleset entry_cases = (entry_short, read_limit, entry_printed)
