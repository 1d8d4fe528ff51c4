use Rattle.std.proofs.Common.{ℕ, [], ◌∷◌, ◌≡◌}
use borrow.Author.Rules.{rules}
use denote.Enum.Declared.{tag_of}
use types.Run.{OneOf, miss}
use Rattle.lines.specs.contracts.read.Line.{the_type}
use Rattle.lines.specs.declared.read.Line.{Line}
use Rattle.lines.specs.declared.read.Line.TheVariants.{Row}
use Rattle.transcript.specs.Table.{table_laws}
use Rattle.transcript.proofs.rows.read_rows.Goals as goal

-- the variants past the first are none of them a row
not_row : (x : Line) → OneOf (1 ∷ 2 ∷ 3 ∷ 4 ∷ []) (tag_of the_type x) → (c p d : ℕ) → x ≡ Row c p d → ⊥
not_row x h c p d e = miss (1 ∷ 2 ∷ 3 ∷ 4 ∷ []) 0 tt (rw e at h)

pub loop-t-init : goal.loop-t-init
loop-t-init c = search (rules, table_laws)

pub returns-then-text-at : goal.returns-then-text-at
returns-then-text-at c = search (rules, table_laws)

pub returns-in_default : goal.returns-in_default
returns-in_default c = search (rules, table_laws, not_row)

pub loop-t-smaller : goal.loop-t-smaller
loop-t-smaller c = search (rules, table_laws)

pub loop-t-preserved : goal.loop-t-preserved
loop-t-preserved c = search (rules, table_laws)

pub returns : goal.returns
returns c = search (rules, table_laws)
