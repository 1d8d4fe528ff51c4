-- What the code of one line keeps, and its cases. Assumes nothing.
use Rattle.std.specs.Prelude.{ℕ, ◌+◌, ◌*◌, ◌≤◌, ◌<◌, ◌≡◌, Bool, take}
use Rattle.std.proofs.Math.Path.{refl, ap, subst}
use Rattle.std.proofs.Common.{sym, ◌∙◌, true≢false, add-one, arith, length-take-le}
use Rattle.std.proofs.Math.Bool.{true, false, cond}
use mathlib.Core.List.{List, []}
use Rattle.std.proofs.Math.Dec.{ltb}
use Rattle.std.proofs.Math.ListN.{length}
use borrow.Author.Tests.{lt-ltb, le-ltb, eq-eqb, ne_eqb}
use Rattle.decimal.specs.Buffer.{Wrote, wrote_none, wrote_within}
use Rattle.lines.specs.Text.{line_text}
use Rattle.table.specs.Words.{words_with, words_places, words_more}
use Rattle.lesson.specs.declared.item.Item.{Item}
use Rattle.lesson.specs.declared.item.Item.TheVariants.{Row, Ask, Unreadable}
use Rattle.lesson.specs.declared.step.Progress.{Progress}
use Rattle.lesson.specs.Lesson.{answer_text, Table, Step, unread, added, answered, step_of, closing, longest}

-- the table so far
abbrev pub table_of : List ℕ → Progress → Table
table_of w p = record { rows = take (3 * p.count) w; asked = p.asked }

-- there is room for the answers that may still come, and for an unreadable line
pub record Ready (p : Progress) (out : List ℕ) : Type 0 where
  pub few : p.count ≤ 16
  pub asks : p.asked ≤ 12
  pub line : p.line < 1000000
  pub room : p.end + longest ≤ length out + 3182 * p.asked

-- r is what the step x leads to from p, with the words v in place of w
pub record Did (x : Step) (p r : Progress) (w v before after : List ℕ) : Type 0 where
  pub wrote : Wrote 3182 x.text before after p.end r.end
  pub table : table_of v r ≡ x.table
  pub over : r.over ≡ x.over
  pub few : r.count ≤ 16
  pub asks : r.asked ≤ 12
  pub places : length v ≡ length w
  pub line : r.line ≡ p.line + 1
  -- an answer takes 3,182 bytes at most, and an unreadable line 86
  pub size : r.over ≡ false → length x.text + 3182 * p.asked ≤ 3182 * r.asked
  pub last : length x.text + 3182 * p.asked ≤ 3182 * r.asked + 86

-- the step of a line
abbrev pub ItemDid : Item → Progress → Progress → List ℕ → List ℕ → List ℕ → List ℕ → Type 0
ItemDid x p r w v before after = Did (step_of p.line (table_of w p) x) p r w v before after

-- it was printed that the line is unreadable
pub record Unread (p r : Progress) (before after : List ℕ) : Type 0 where
  pub wrote : Wrote 86 (line_text 0 63 13 p.line 0) before after p.end r.end
  pub few : p.count ≤ 16
  pub asks : p.asked ≤ 12
  pub count : r.count ≡ p.count
  pub asked : r.asked ≡ p.asked
  pub line : r.line ≡ p.line + 1
  pub over : r.over ≡ true

-- what the end of the input prints was written
pub record Finished (p : Progress) (w before after : List ℕ) (r : ℕ) : Type 0 where
  pub wrote : Wrote 3182 (closing (table_of w p)) before after p.end r
  pub short : length (closing (table_of w p)) + 3182 * p.asked ≤ 38184

-- ---- `unreadable`

pub unread_is : (p : Progress) (before after : List ℕ) (end : ℕ) → Ready p before → Wrote 86 (line_text 0 63 13 p.line 0) before after p.end end
    → Unread p (record { count = p.count; asked = p.asked; line = p.line + 1; end = end; over = true }) before after
unread_is p before after end ready w =
    record { wrote = w; few = ready.few; asks = ready.asks; count = refl; asked = refl; line = refl; over = refl }

did_unread : (x : Step) (p r : Progress) (w before after : List ℕ) → x ≡ unread p.line (table_of w p) → Unread p r before after → Did x p r w w before after
did_unread x p r w before after e u =
    subst (λ (y : Step). Did y p r w w before after) (sym e) record {
      wrote = wrote_within 86 3182 _ before after p.end r.end (omega arith) u.wrote;
      table = rw (u.count, u.asked);
      over = u.over;
      few = omega (arith, u.count, u.few);
      asks = omega (arith, u.asked, u.asks);
      places = refl;
      line = u.line;
      size = λ f. absurd (true≢false (sym u.over ∙ f));
      last = omega (arith, u.wrote.short, u.asked);
    }

module _ (p : Progress) (w before : List ℕ) (ready : Ready p before) (places : length w ≡ 48) where
  rows_length : length (take (3 * p.count) w) ≡ 3 * p.count
  rows_length = length-take-le (3 * p.count) w (omega (arith, ready.few))

  -- ---- `add`

  module _ (c t d : ℕ) where
    pub add_full : (r : Progress) (after : List ℕ) → 16 ≤ p.count → Unread p r before after → ItemDid (Row c t d) p r w w before after
    unfolding step_of
    add_full r after h u =
        did_unread _ p r w before after (simp (le-ltb (length (take (3 * p.count) w)) 48 (omega (arith, rows_length)))) u

    pub add_row : (v : List ℕ) → p.count < 16 → v ≡ words_with w p.count c t d
        → ItemDid (Row c t d) p (record { count = p.count + 1; asked = p.asked; line = p.line + 1; end = p.end; over = false }) w v before before
    unfolding step_of
    add_row v h e =
        let room : ltb (length (take (3 * p.count) w)) 48 ≡ true = lt-ltb (length (take (3 * p.count) w)) 48 (omega (arith, rows_length)) in
        subst (λ (y : Step). Did y p (record { count = p.count + 1; asked = p.asked; line = p.line + 1; end = p.end; over = false }) w v before before)
        (sym (ap (λ (b : Bool). cond b (added (table_of w p) c t d) (unread p.line (table_of w p))) room)) record {
          wrote = wrote_none 3182 before p.end;
          table = rw (e, words_more w p.count c t d h places);
          over = refl;
          few = omega arith;
          asks = ready.asks;
          places = rw e (words_places w p.count c t d);
          line = refl;
          size = λ f. omega arith;
          last = omega arith;
        }

  -- ---- `ask`

  module _ (m : ℕ) where
    pub ask_full : (r : Progress) (after : List ℕ) → 12 ≤ p.asked → Unread p r before after → ItemDid (Ask m) p r w w before after
    unfolding step_of
    ask_full r after h u = did_unread _ p r w before after (simp (le-ltb p.asked 12 h)) u

    pub ask_is : (ws after : List ℕ) (n end : ℕ) → p.asked < 12 → ws ≡ take (3 * p.count) w → n ≡ m → Wrote 3182 (answer_text ws n) before after p.end end
        → ItemDid (Ask m) p (record { count = p.count; asked = p.asked + 1; line = p.line + 1; end = end; over = false }) w w before after
    unfolding step_of
    ask_is ws after n end h e is y =
        let x : Wrote 3182 (answer_text ws m) before after p.end end = rw is at y in
        subst (λ (y : Step). Did y p (record { count = p.count; asked = p.asked + 1; line = p.line + 1; end = end; over = false }) w w before after)
        (sym (ap (λ (b : Bool). cond b (answered (table_of w p) m) (unread p.line (table_of w p))) (lt-ltb p.asked 12 h))) record {
          wrote = rw e at x;
          table = rw add-one;
          over = refl;
          few = ready.few;
          asks = omega arith;
          places = refl;
          line = refl;
          size = λ f. omega (arith, x.short, ap (λ (z : List ℕ). length (answer_text z m)) e);
          last = omega (arith, x.short, ap (λ (z : List ℕ). length (answer_text z m)) e);
        }

    -- room for the answer
    pub ask_room : p.asked < 12 → p.end + 3182 ≤ length before
    ask_room h = omega (arith, ready.room)

  pub unread_room : p.end + 86 ≤ length before
  unread_room = omega (arith, ready.room, ready.asks)

  -- ---- `finish`

  pub finish_none : (ws after : List ℕ) (r : ℕ) → p.asked ≡ 0 → ws ≡ take (3 * p.count) w → Wrote 3182 (answer_text ws 0) before after p.end r
      → Finished p w before after r
  finish_none ws after r z e x =
      let is : closing (table_of w p) ≡ answer_text ws 0 = simp (eq-eqb p.asked 0 z) (ap (λ (l : List ℕ). answer_text l 0) (sym e)) in
      record { wrote = rw is x; short = omega (arith, ap length is, x.short) }

  pub finish_asked : (p.asked ≡ 0 → ⊥) → Finished p w before before p.end
  finish_asked n =
      let is : closing (table_of w p) ≡ [] = simp (ne_eqb p.asked 0 n) in
      record { wrote = rw is (wrote_none 3182 before p.end); short = omega (arith, ap length is, ready.asks) }

pub ruleset add_cases = (add_full, add_row)

pub ruleset ask_cases = (ask_full, ask_is, ask_room)

pub ruleset finish_cases = (finish_none, finish_asked, ask_room)

-- ---- `step`

module _ (x : Item) (p r : Progress) (w before after : List ℕ) where
  pub step_unreadable : x ≡ Unreadable → Unread p r before after → ItemDid x p r w w before after
  unfolding step_of
  step_unreadable e u = rw e (did_unread _ p r w before after refl u)

  pub step_row : (v : List ℕ) (c t d : ℕ) → x ≡ Row c t d → ItemDid (Row c t d) p r w v before after → ItemDid x p r w v before after
  step_row v c t d e u = rw e u

  pub step_ask : (n : ℕ) → x ≡ Ask n → ItemDid (Ask n) p r w w before after → ItemDid x p r w w before after
  step_ask n e u = rw e u

pub ruleset step_cases = (step_unreadable, step_row, step_ask)
