-- The code that reads a line. Assumes nothing.
use Rattle.std.specs.Prelude.{Option, Some, None, ℕ, ◌+◌, ◌≤◌, ◌<◌, ◌≡◌, eqb, take, drop, get_or}
use Rattle.std.proofs.Math.Path.{refl, sym}
use Rattle.std.proofs.Common.{ap, ◌∙◌}
use Rattle.std.proofs.Math.Bool.{and-false}
use mathlib.Core.List.{List, [], ◌∷◌}
use native.Mathlib.Omega.{arith}
use Rattle.std.proofs.Math.ListN.{length}
use borrow.Author.Tests.{eq-eqb, ne_eqb}
use Rattle.decimal.specs.Number.{number_of}
use Rattle.lines.specs.declared.read.Call.{Call as CallKind}
use Rattle.lines.specs.declared.read.Line.{Line}
use Rattle.lines.specs.declared.read.Line.TheVariants.{Word, Call, Empty}
use Rattle.lines.specs.declared.read.Line.TheVariants as line
use Rattle.lines.specs.Parted.{Found, tail_is}
use Rattle.lines.specs.Line.{line_of}
use Rattle.lines.specs.Lines.{next_left, next_line, next_within}
use Rattle.lesson.specs.declared.item.Item.{Item}
use Rattle.lesson.specs.declared.item.Item.TheVariants.{Row, Ask, Unreadable}
use Rattle.lesson.specs.declared.item.Next.{Next}
use Rattle.lesson.specs.Item.{asked, row_of, item_of, items_of}

-- r is the line that begins at a place of l, and the place past it
pub record Took (l : List ℕ) (at : ℕ) (r : Next) : Type 0 where
  pub items : items_of (drop at l) ≡ r.item ∷ items_of (drop r.at l)
  pub later : at < r.at
  pub within : r.at ≤ length l

-- ---- `read_ask`

module _ (l : List ℕ) (x : Option ℕ) (is : x ≡ number_of l) where
  pub ask_number : (n : ℕ) → x ≡ Some n → Ask n ≡ asked (number_of l)
  ask_number n e = ap asked (sym e ∙ is)

  pub ask_none : x ≡ None → Unreadable ≡ asked (number_of l)
  ask_none e = ap asked (sym e ∙ is)

pub ruleset ask_cases = (ask_number, ask_none)

-- ---- `read_other`

module _ (l : List ℕ) (x : Line) (is : x ≡ line_of l) where
  pub other_row : (c t d : ℕ) → x ≡ line.Row c t d → Row c t d ≡ row_of (line_of l)
  other_row c t d e = ap row_of (sym e ∙ is)

  pub other_word : (w : ℕ) → x ≡ Word w → Unreadable ≡ row_of (line_of l)
  other_word w e = ap row_of (sym e ∙ is)

  pub other_call : (c : CallKind) → x ≡ Call c → Unreadable ≡ row_of (line_of l)
  other_call c e = ap row_of (sym e ∙ is)

  pub other_empty : x ≡ Empty → Unreadable ≡ row_of (line_of l)
  other_empty e = ap row_of (sym e ∙ is)

  pub other_unreadable : x ≡ line.Unreadable → Unreadable ≡ row_of (line_of l)
  other_unreadable e = ap row_of (sym e ∙ is)

pub ruleset other_cases = (other_row, other_word, other_call, other_empty, other_unreadable)

-- ---- `read_item`

module _ (l : List ℕ) (x : Item) where
  pub item_short : length l < 2 → x ≡ row_of (line_of l) → x ≡ item_of l
  unfolding item_of
  item_short h e = e ∙ sym (short l h)
    where
      short : (l : List ℕ) → length l < 2 → item_of l ≡ row_of (line_of l)
      short [] h = refl
      short (b ∷ []) h = simp (and-false (eqb b 78))
      short (b ∷ c ∷ l) h = absurd (omega arith)

  pub item_letter : (get_or l 0 0 ≡ 78 → ⊥) → x ≡ row_of (line_of l) → x ≡ item_of l
  unfolding item_of
  item_letter n e = e ∙ sym (simp (ne_eqb (get_or l 0 0) 78 n))

  pub item_tab : get_or l 0 0 ≡ 78 → (get_or l 1 0 ≡ 9 → ⊥) → x ≡ row_of (line_of l) → x ≡ item_of l
  unfolding item_of
  item_tab a n e = e ∙ sym (simp (eq-eqb (get_or l 0 0) 78 a, ne_eqb (get_or l 1 0) 9 n))

  pub item_ask : (rest : List ℕ) → get_or l 0 0 ≡ 78 → get_or l 1 0 ≡ 9 → rest ≡ drop 2 l → x ≡ asked (number_of rest) → x ≡ item_of l
  unfolding item_of
  item_ask rest a b d e = e ∙ rw d (sym (simp (eq-eqb (get_or l 0 0) 78 a, eq-eqb (get_or l 1 0) 9 b)))

pub ruleset item_cases = (item_short, item_letter, item_tab, item_ask, tail_is)

-- ---- `next_item`

module _ (l rest : List ℕ) (at : ℕ) (h : at < length l) (i : rest ≡ drop at l) where
  pub took_left : Found 10 rest None → Took l at (record { item = Unreadable; at = length l })
  unfolding items_of
  took_left k = record { items = next_left item_of Unreadable l rest at h i k; later = h; within = omega arith }

  pub took_line : (x : Item) (e : ℕ) → Found 10 rest (Some e) → x ≡ item_of (take e rest) → Took l at (record { item = x; at = at + e + 1 })
  unfolding items_of
  took_line x e p g = record {
    items = rw g (next_line item_of Unreadable l rest at h i e p);
    later = omega arith;
    within = next_within item_of Unreadable l rest at h i e p;
  }
