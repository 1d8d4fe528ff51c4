-- The code that makes the table. Assumes nothing.
use Rattle.std.specs.Prelude.{◌≡◌, ℕ, ◌+◌, ◌*◌, ◌/◌, ◌%◌, ◌^◌, ◌<◌, ◌≤◌, List, [], ◌∷◌, ◌++◌, length, take, replicate, refl}
use Rattle.std.proofs.Common.{sym, ◌∙◌, append-nil, pow-suc, add-one, arith}
use Rattle.std.proofs.Math.Path.{ap}
use Rattle.std.proofs.Math.Nat.{div-div-eq-div-mul}
use Rattle.decimal.specs.Buffer.{Wrote, wrote_none, wrote_more, wrote_within, wrote_length}
use Rattle.lines.specs.declared.read.Line.TheVariants.{Row}
use Rattle.lines.specs.Input.{input_line, input_text, text_append}
use Rattle.table.specs.Words.{words_places, words_more}
use Rattle.report.specs.Rows.{row_lines, row_words, lines_append, words_append}
use Rattle.workload.specs.declared.rows.Row.{Row as RowOf}
use Rattle.transcript.specs.declared.rows.Rows.{Rows}
use Rattle.transcript.specs.Table.{with_row}
use Rattle.workload.specs.Table.{digit_of, row_count, row_by, row_of, rows_to, rows_of_seed, table_of}
use Rattle.workload.specs.Loose.{count_few}

-- r is row i of n rows, by its digit
pub record RowIs (n i q : ℕ) (r : RowOf) : Type 0 where
  pub run : r.run ≡ (row_by n i q).0
  pub period : r.period ≡ (row_by n i q).1
  pub deadline : r.deadline ≡ (row_by n i q).2

pub row_is : (n i q : ℕ) (r : RowOf) → r.run ≡ 3 + q % 2 → r.deadline ≡ 4 * (n + i) + q / 2 % 2 → r.period ≡ r.deadline + 2 * (q / 4) → RowIs n i q r
unfolding row_by
row_is n i q r a b c = record { run = a; period = omega arith; deadline = b }

-- t is the table of the seed, and its lines stand at the start of the buffer
pub record Tabled (seed : ℕ) (t : Rows) (before after : List ℕ) : Type 0 where
  pub words : take (3 * t.count) t.words ≡ table_of seed
  pub places : length t.words ≡ 48
  pub few : t.count ≤ 12
  pub count : t.count ≡ row_count seed
  pub wrote : Wrote (65 * row_count seed) (input_text (row_lines (rows_of_seed seed))) before after 0 t.at

-- ---- the loop over the rows

-- t has its first rows, of n
pub record Tabling (seed n : ℕ) (before : List ℕ) (t : Rows) (d : ℕ) (out : List ℕ) : Type 0 where
  pub rows : n ≡ row_count seed
  pub room : 780 ≤ length before
  pub few : t.count ≤ n
  pub digits : d ≡ seed / 8 ^ (t.count + 1)
  pub words : take (3 * t.count) t.words ≡ row_words (rows_to seed t.count)
  pub places : length t.words ≡ 48
  pub wrote : Wrote (65 * t.count) (input_text (row_lines (rows_to seed t.count))) before out 0 t.at
  pub same : length out ≡ length before

tabling_start : (seed n d : ℕ) (before : List ℕ) → n ≡ 5 + seed % 8 → d ≡ seed / 8 → 780 ≤ length before
    → Tabling seed n before (record { words = replicate 48 0; count = 0; at = 0 }) d before
unfolding row_count digit_of rows_to input_text
tabling_start seed n d before e f h = record {
  rows = omega arith;
  room = h;
  few = omega arith;
  digits = f;
  words = refl;
  places = refl;
  wrote = wrote_none 0 before 0;
  same = refl;
}

module _ (seed n : ℕ) (before : List ℕ) (t : Rows) (d : ℕ) (out : List ℕ) (now : Tabling seed n before t d out) where
  abbrev i : ℕ
  i = t.count

  -- the text so far, and its length
  abbrev text : List ℕ
  text = input_text (row_lines (rows_to seed i))

  module _ (l : i < n) where
    tabling_place : i < 16
    tabling_place = omega (arith, now.rows, count_few seed)

    tabling_room : t.at + 65 ≤ length out
    tabling_room = omega (arith, now.rows, now.room, now.same, now.wrote.place, now.wrote.short, count_few seed)

    row_now : row_by n i (d % 8) ≡ row_of seed i
    unfolding row_of digit_of
    row_now = ap (λ (x : ℕ). row_by n i (x % 8)) now.digits ∙ ap (λ (m : ℕ). row_by m i (seed / 8 ^ (i + 1) % 8)) now.rows

    tabling_next : (r : RowOf) (u : Rows) (end : ℕ) (out' : List ℕ) → RowIs n i (d % 8) r → u ≡ with_row t r.run r.period r.deadline end
        → Wrote 65 (input_line (Row r.run r.period r.deadline)) out out' t.at end
        → Tabling seed n before u (d / 8) out'
    unfolding rows_to input_text
    tabling_next r u end out' is e w =
        let line : List ℕ = input_line (Row r.run r.period r.deadline) in
        let run : r.run ≡ (row_of seed i).0 = is.run ∙ ap (λ (p : ℕ × ℕ × ℕ). p.0) row_now in
        let period : r.period ≡ (row_of seed i).1 = is.period ∙ ap (λ (p : ℕ × ℕ × ℕ). p.1) row_now in
        let deadline : r.deadline ≡ (row_of seed i).2 = is.deadline ∙ ap (λ (p : ℕ × ℕ × ℕ). p.2) row_now in
        let fits : 0 + length text ≤ length before = omega (arith, now.wrote.short, now.room, now.rows, count_few seed) in
        let more : input_text (row_lines (rows_to seed (i + 1))) ≡ text ++ input_line (Row r.run r.period r.deadline) =
        rw (add-one, lines_append (rows_to seed i) (row_of seed i ∷ []), text_append (row_lines (rows_to seed i)) (row_lines (row_of seed i ∷ [])), run, period, deadline)
        (ap (λ (x : List ℕ). text ++ x) (append-nil (input_line (Row (row_of seed i).0 (row_of seed i).1 (row_of seed i).2)))) in
        let all = wrote_more (65 * i) 65 text line before out out' 0 t.at end fits now.wrote w in
        rw e (record {
          rows = now.rows;
          room = now.room;
          few = omega arith;
          digits =
              ap (λ (x : ℕ). x / 8) now.digits
              ∙ div-div-eq-div-mul seed (8 ^ (i + 1)) 8
              ∙ ap (λ (m : ℕ). seed / m) (sym (pow-suc 8 (i + 1)) ∙ ap (λ (m : ℕ). 8 ^ m) (sym (add-one (i + 1))));
          words =
              words_more t.words i r.run r.period r.deadline tabling_place now.places
              ∙ rw (now.words, run, period, deadline, add-one) (sym (words_append (rows_to seed i) (row_of seed i ∷ [])));
          places = words_places t.words i r.run r.period r.deadline ∙ now.places;
          wrote = rw more (wrote_within (65 * i + 65) (65 * (i + 1)) (text ++ line) before out' 0 end (omega arith) all);
          same = wrote_length 65 line out out' t.at end (omega (arith, tabling_room, w.short)) w ∙ now.same;
        })

  tabling_done : n ≤ i → Tabled seed t before out
  unfolding table_of
  tabling_done l =
      let last : i ≡ row_count seed = omega (arith, now.few, now.rows) in
      record {
        words = now.words ∙ ap (λ (m : ℕ). row_words (rows_to seed m)) last;
        places = now.places;
        few = omega (arith, count_few seed);
        count = last;
        wrote = rw last at now.wrote;
      }

-- at turn k of the loop
pub record Turn (seed n : ℕ) (before : List ℕ) (t : Rows) (d : ℕ) (out : List ℕ) (k : ℕ) : Type 0 where
  pub so_far : Tabling seed n before t d out
  pub turn : t.count ≡ k

pub turn_start : (seed n d : ℕ) (before : List ℕ) → n ≡ 5 + seed % 8 → d ≡ seed / 8 → 780 ≤ length before
    → Turn seed n before (record { words = replicate 48 0; count = 0; at = 0 }) d before 0
turn_start seed n d before e f h = record { so_far = tabling_start seed n d before e f h; turn = refl }

module _ (seed n : ℕ) (before : List ℕ) (t : Rows) (d : ℕ) (out : List ℕ) (k : ℕ) (now : Turn seed n before t d out k) where
  pub turn_done : n ≤ k → Tabled seed t before out
  turn_done l = tabling_done seed n before t d out now.so_far (omega (arith, now.turn))

  module _ (l : k < n) where
    below : t.count < n
    below = omega (arith, now.turn)

    pub turn_row : (n ≤ 12) × (k ≤ 12) × (d % 8 < 8)
    turn_row = let c = count_few seed in (omega (arith, now.so_far.rows), omega (arith, now.so_far.rows), omega arith)

    pub turn_place : t.count < 16
    turn_place = tabling_place seed n before t d out now.so_far below

    pub turn_room : t.at + 65 ≤ length out
    turn_room = tabling_room seed n before t d out now.so_far below

    pub turn_next : (r : RowOf) (u : Rows) (end : ℕ) (out' : List ℕ) → RowIs n k (d % 8) r → u ≡ with_row t r.run r.period r.deadline end
        → Wrote 65 (input_line (Row r.run r.period r.deadline)) out out' t.at end
        → Turn seed n before u (d / 8) out' (k + 1)
    turn_next r u end out' is e w = record {
      so_far = tabling_next seed n before t d out now.so_far below r u end out' (rw now.turn is) e w;
      turn = ap (λ (x : Rows). x.count) e ∙ ap (λ (m : ℕ). m + 1) now.turn;
    }

pub ruleset tabling_laws = (turn_start, turn_row, turn_place, turn_room, turn_next, turn_done)
