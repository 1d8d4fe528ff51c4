use Rattle.std.proofs.Common.{arith, sym}
use Rattle.std.proofs.Math.Seq.{length-take-le}
use Rattle.response.specs.Entry.{calls_laws}
use borrow.Author.Rules.{rules}
use Rattle.response.proofs.put_calls.Goals as goal

pub started-t-requires : goal.started-t-requires
started-t-requires c = search (rules, calls_laws)

pub slice_bounds-walk-end : goal.slice_bounds-walk-end
slice_bounds-walk-end c = sym (length-take-le _ _ (omega arith))

pub walk-requires : goal.walk-requires
walk-requires c = search (rules, calls_laws)

pub returns : goal.returns
returns c = search (rules, calls_laws)
