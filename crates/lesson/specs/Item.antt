-- Which lines `contest` reads, and what they say (docs/SPECIFICATION.md §13.4). Definitions only. Assumes nothing.
use Rattle.std.specs.Prelude.{Option, Some, None, ℕ, Bool, ◌&&◌, cond, List, eqb, get_or, drop}
use Rattle.decimal.specs.Number.{number_of}
use Rattle.lines.specs.declared.read.Line.{Line}
use Rattle.lines.specs.declared.read.Line.TheVariants.{Word, Call, Empty}
use Rattle.lines.specs.declared.read.Line.TheVariants as line
use Rattle.lines.specs.Line.{line_of}
use Rattle.lines.specs.Lines.{lines_by}
use Rattle.lesson.specs.declared.item.Item.{Item}
use Rattle.lesson.specs.declared.item.Item.TheVariants.{Row, Ask, Unreadable}

-- `N`, a tab and a number ask
abbrev pub asked : Option ℕ → Item
asked (Some n) = Ask n
asked None = Unreadable

-- of the lines that `shuffle` reads, a row has a meaning here
abbrev pub row_of : Line → Item
row_of (line.Row c t d) = Row c t d
row_of (Word w) = Unreadable
row_of (Call c) = Unreadable
row_of Empty = Unreadable
row_of line.Unreadable = Unreadable

-- the line begins with `N` and a tab
abbrev pub asks : List ℕ → Bool
asks l = eqb (get_or l 0 0) 78 && eqb (get_or l 1 0) 9

-- a line without its newline
unfoldable pub item_of : List ℕ → Item
item_of l = cond (asks l) (asked (number_of (drop 2 l))) (row_of (line_of l))

-- the lines of a text; bytes after the last newline are one more, and unreadable
unfoldable pub items_of : List ℕ → List Item
items_of l = lines_by item_of Unreadable l
