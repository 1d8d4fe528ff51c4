use Rattle.std.proofs.Common.{arith, sym}
use Rattle.std.proofs.Math.Seq.{length-take-le}
use Rattle.transcript.specs.Opens.{judge_laws}
use borrow.Author.Rules.{rules}
use Rattle.transcript.proofs.opening.judge.Goals as goal

pub slice_bounds-opinion-end : goal.slice_bounds-opinion-end
slice_bounds-opinion-end c = sym (length-take-le _ _ (omega arith))

pub put_opinion-end-requires : goal.put_opinion-end-requires
put_opinion-end-requires c = search (rules, judge_laws)

pub returns : goal.returns
returns c = search (rules, judge_laws)
