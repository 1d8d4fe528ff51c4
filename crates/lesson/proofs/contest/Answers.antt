use Rattle.std.proofs.Common.{arith, sym}
use Rattle.std.proofs.Math.Seq.{length-take-le}
use Rattle.lesson.specs.Entry.{entry_cases}
use borrow.Author.Rules.{rules}
use Rattle.lesson.proofs.contest.Goals as goal

pub returns-then-out-lt-LONGEST : goal.returns-then-out-lt-LONGEST
returns-then-out-lt-LONGEST c = search (rules, entry_cases)

pub slice_bounds-print-end : goal.slice_bounds-print-end
slice_bounds-print-end c = sym (length-take-le _ _ (omega arith))

pub print-requires : goal.print-requires
print-requires c = search (rules, entry_cases)

pub returns : goal.returns
returns c = search (rules, entry_cases)
