use Rattle.std.proofs.Common.{sym}
use Rattle.std.proofs.Math.Seq.{length-take-le}
use borrow.Author.Rules.{rules}
use Rattle.desk.specs.Step.{answer_cases}
use Rattle.desk.proofs.step.put_answer.Goals as goal

pub returns-then-p : goal.returns-then-p
returns-then-p c = search (rules, answer_cases)

pub slice_bounds-opinion-end : goal.slice_bounds-opinion-end
slice_bounds-opinion-end c = sym (length-take-le _ _ (search rules))

pub put_opinion-requires : goal.put_opinion-requires
put_opinion-requires c = search (rules, answer_cases)

pub returns : goal.returns
returns c = search (rules, answer_cases)
