use Rattle.std.proofs.Common.{arith, sym}
use Rattle.std.proofs.Math.Seq.{length-take-le}
use Rattle.lesson.specs.Step.{ask_cases}
use borrow.Author.Rules.{rules}
use Rattle.lesson.proofs.step.ask.Goals as goal

pub returns-then-p-ge12 : goal.returns-then-p-ge12
returns-then-p-ge12 c = search (rules, ask_cases)

pub slice_bounds-put_answer-end : goal.slice_bounds-put_answer-end
slice_bounds-put_answer-end c = sym (length-take-le _ _ (omega arith))

pub returns : goal.returns
returns c = search (rules, ask_cases)
