use Rattle.std.proofs.Common.{arith, sym}
use Rattle.std.proofs.Math.Seq.{length-take-le}
use Rattle.response.specs.Entry.{entry_cases}
use borrow.Author.Rules.{rules}
use Rattle.response.proofs.plan.Goals as goal

pub returns-then-out-room_for : goal.returns-then-out-room_for
returns-then-out-room_for c = search (rules, entry_cases)

pub slice_bounds-print-end : goal.slice_bounds-print-end
slice_bounds-print-end c = sym (length-take-le _ _ (omega arith))

pub print-requires : goal.print-requires
print-requires c = search (rules, entry_cases)

pub returns : goal.returns
returns c = search (rules, entry_cases)
