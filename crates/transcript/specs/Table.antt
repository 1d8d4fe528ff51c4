-- The code that reads the table. Assumes nothing.
use Rattle.std.specs.Prelude.{ℕ, zero, suc, ◌+◌, ◌-◌, ◌*◌, ◌≤◌, ◌<◌, ◌≡◌, refl, List, [], ◌∷◌, ◌++◌, length, take, drop, replicate}
use Rattle.std.proofs.Common.{ap, ◌∙◌, append_assoc, append-nil, arith}
use Rattle.lines.specs.declared.read.Line.{Line}
use Rattle.lines.specs.declared.read.Line.TheVariants.{Row, Word, Call, Empty, Unreadable}
use Rattle.lines.specs.declared.read.Next.{Next}
use Rattle.lines.specs.Lines.{lines_of, lines_end, Took}
use Rattle.table.specs.Words.{words_with, words_places, words_more}
use Rattle.transcript.specs.declared.rows.Rows.{Rows}
use Rattle.transcript.specs.Transcript.{row_limit, rows_in, after_rows}

-- one row more, with the place of the line after it
abbrev pub with_row : Rows → ℕ → ℕ → ℕ → ℕ → Rows
with_row t c p d at = record {
  words = words_with t.words t.count c p d;
  count = t.count + 1;
  at = at;
}

-- t is the table that the text l states
pub record Stated (l : List ℕ) (t : Rows) : Type 0 where
  pub rows : rows_in row_limit (lines_of l) ≡ take (3 * t.count) t.words
  pub rest : after_rows row_limit (lines_of l) ≡ lines_of (drop t.at l)
  pub places : length t.words ≡ 48
  pub few : t.count ≤ 16
  pub within : t.at ≤ length l
  pub size : t.count ≤ t.at

-- ---- the code

-- t has the rows before its place, and those from there on are left to read
pub record Reading (l : List ℕ) (t : Rows) : Type 0 where
  pub rows : rows_in row_limit (lines_of l) ≡ take (3 * t.count) t.words ++ rows_in (row_limit - t.count) (lines_of (drop t.at l))
  pub rest : after_rows row_limit (lines_of l) ≡ after_rows (row_limit - t.count) (lines_of (drop t.at l))
  pub places : length t.words ≡ 48
  pub few : t.count ≤ 16
  pub within : t.at ≤ length l
  pub size : t.count ≤ t.at

pub reading_start : (l : List ℕ) → Reading l (record { words = replicate 48 0; count = 0; at = 0 })
reading_start l = record { rows = refl; rest = refl; places = refl; few = omega arith; within = omega arith; size = omega arith }

pub rows_none : (k : ℕ) → rows_in k [] ≡ []
rows_none zero = refl
rows_none (suc k) = refl

pub after_none : (k : ℕ) → after_rows k [] ≡ []
after_none zero = refl
after_none (suc k) = refl

-- a line that is no row ends the table
pub rows_other : (k : ℕ) (x : Line) (m : List Line) → ((c p d : ℕ) → x ≡ Row c p d → ⊥) → rows_in k (x ∷ m) ≡ []
rows_other zero x m ne = refl
rows_other (suc k) (Row c p d) m ne = absurd (ne c p d refl)
rows_other (suc k) (Word w) m ne = refl
rows_other (suc k) (Call c) m ne = refl
rows_other (suc k) Empty m ne = refl
rows_other (suc k) Unreadable m ne = refl

pub after_other : (k : ℕ) (x : Line) (m : List Line) → ((c p d : ℕ) → x ≡ Row c p d → ⊥) → after_rows k (x ∷ m) ≡ x ∷ m
after_other zero x m ne = refl
after_other (suc k) (Row c p d) m ne = absurd (ne c p d refl)
after_other (suc k) (Word w) m ne = refl
after_other (suc k) (Call c) m ne = refl
after_other (suc k) Empty m ne = refl
after_other (suc k) Unreadable m ne = refl

-- one row less is left to read
pub reading_less : (t u : Rows) (c p d at : ℕ) → t.count < 16 → u ≡ with_row t c p d at → 16 - u.count < 16 - t.count
reading_less t u c p d at h f = rw f (omega arith)

module _ (l : List ℕ) (t : Rows) (r : Reading l t) where
  pub reading_next : (n : Next) (c p d : ℕ) (u : Rows) → t.count < 16 → Took l t.at n → n.line ≡ Row c p d → u ≡ with_row t c p d n.at
      → Reading l u
  reading_next n c p d u h k e f =
      let left : row_limit - t.count ≡ suc (row_limit - (t.count + 1)) = omega arith in
      let lines : lines_of (drop t.at l) ≡ Row c p d ∷ lines_of (drop n.at l) = k.lines ∙ rw e in
      let more : t.at + 8 ≤ n.at = rw e at k.size in
      rw f (record {
        rows = r.rows ∙ rw (left, lines, words_more t.words t.count c p d h r.places) (simp append_assoc);
        rest = r.rest ∙ rw (left, lines);
        places = words_places t.words t.count c p d ∙ r.places;
        few = omega arith;
        within = k.within;
        size = omega arith;
      })

  module _ (a : rows_in (row_limit - t.count) (lines_of (drop t.at l)) ≡ [])
      (b : after_rows (row_limit - t.count) (lines_of (drop t.at l)) ≡ lines_of (drop t.at l)) where
    stated : Stated l t
    stated = record {
      rows = r.rows ∙ rw a (append-nil _);
      rest = r.rest ∙ b;
      places = r.places;
      few = r.few;
      within = r.within;
      size = r.size;
    }

  pub reading_full : 16 ≤ t.count → Stated l t
  reading_full h =
      let left : row_limit - t.count ≡ 0 = omega arith in
      stated (rw left) (rw left)

  pub reading_end : length l ≤ t.at → Stated l t
  reading_end h =
      let place : t.at ≡ length l = omega arith in
      let none : lines_of (drop t.at l) ≡ [] = ap (λ (n : ℕ). lines_of (drop n l)) place ∙ lines_end l in
      stated (rw none (rows_none (row_limit - t.count))) (rw none (after_none (row_limit - t.count)))

  pub reading_other : (n : Next) → Took l t.at n → ((c p d : ℕ) → n.line ≡ Row c p d → ⊥) → Stated l t
  reading_other n k ne =
      let rest : List Line = lines_of (drop n.at l) in
      stated (rw k.lines (rows_other (row_limit - t.count) n.line rest ne))
      (rw k.lines (after_other (row_limit - t.count) n.line rest ne))

pub ruleset table_laws = (reading_start, reading_next, reading_less, reading_full, reading_end, reading_other)
