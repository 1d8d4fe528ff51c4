use Rattle.std.proofs.Common.{arith, sym}
use Rattle.std.proofs.Math.Seq.{length-take-le}
use Rattle.lesson.specs.Step.{finish_cases}
use borrow.Author.Rules.{rules}
use Rattle.lesson.proofs.step.finish.Goals as goal

pub slice_bounds-put_answer-end : goal.slice_bounds-put_answer-end
slice_bounds-put_answer-end c = sym (length-take-le _ _ (omega arith))

pub returns-then-p-eq0 : goal.returns-then-p-eq0
returns-then-p-eq0 c = search (rules, finish_cases)

pub returns : goal.returns
returns c = search (rules, finish_cases)
