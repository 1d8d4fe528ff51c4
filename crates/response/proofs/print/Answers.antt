use Rattle.std.proofs.Common.{arith, sym}
use Rattle.std.proofs.Math.Seq.{length-take-le}
use Rattle.response.specs.Entry.{print_laws}
use borrow.Author.Rules.{rules}
use Rattle.response.proofs.print.Goals as goal

pub slice_bounds-put_besides-end : goal.slice_bounds-put_besides-end
slice_bounds-put_besides-end c = sym (length-take-le _ _ (omega arith))

pub put_besides-requires : goal.put_besides-requires
put_besides-requires c = search (rules, print_laws)

pub returns-then-is_err : goal.returns-then-is_err
returns-then-is_err c = search (rules, print_laws)

pub returns : goal.returns
returns c = search (rules, print_laws)
