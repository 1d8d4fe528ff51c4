use Rattle.std.proofs.Common.{arith, sym}
use Rattle.std.proofs.Math.Seq.{length-take-le}
use Rattle.transcript.specs.Opens.{started_laws}
use borrow.Author.Rules.{rules}
use Rattle.transcript.proofs.opening.started.Goals as goal

pub slice_bounds-words-end : goal.slice_bounds-words-end
slice_bounds-words-end c = search (rules, started_laws)

pub slice_bounds-start_by-end : goal.slice_bounds-start_by-end
slice_bounds-start_by-end c = sym (length-take-le _ _ (omega arith))

pub returns : goal.returns
returns c = search (rules, started_laws)
