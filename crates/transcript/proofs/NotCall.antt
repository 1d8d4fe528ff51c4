-- What the code knows of a line that is no call, for proofs about `let Line::Call(c) = line else`. Assumes nothing.
use mathlib.Core.Path.{◌≡◌}
use mathlib.Core.List.{[], ◌∷◌}
use denote.Enum.Declared.{tag_of}
use types.Run.{OneOf, miss}
use Rattle.lines.specs.contracts.read.Line.{the_type}
use Rattle.lines.specs.declared.read.Line.{Line}
use Rattle.lines.specs.declared.read.Line.TheVariants.{Call as CallLine}
use Rattle.lines.specs.declared.read.Call.{Call}

pub not_call : (x : Line) → OneOf (0 ∷ 1 ∷ 3 ∷ 4 ∷ []) (tag_of the_type x) → (c : Call) → x ≡ CallLine c → ⊥
not_call x h c e = miss (0 ∷ 1 ∷ 3 ∷ 4 ∷ []) 2 tt (rw e at h)
