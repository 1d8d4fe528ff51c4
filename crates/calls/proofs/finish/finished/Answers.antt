use Rattle.std.proofs.Common.{arith, sym}
use Rattle.std.proofs.Math.Seq.{length-take-le}
use borrow.Author.Rules.{rules}
use Rattle.session.specs.Reading.{rows_of}
use Rattle.session.specs.Jobs.{done_start}
use Rattle.calls.specs.Code.{places, ending_rows, given_next, finished_is}
use Rattle.calls.proofs.finish.finished.Goals as goal

pub slice_bounds-rows-end : goal.slice_bounds-rows-end
slice_bounds-rows-end c = sym (length-take-le _ _ (omega arith))

pub offset_bounds-q-c : goal.offset_bounds-q-c
offset_bounds-q-c c = search (rules, places)

pub loop-i-init : goal.loop-i-init
loop-i-init c = search (rules, done_start)

pub given_job-requires : goal.given_job-requires
unfolding rows_of
given_job-requires c = ending_rows _ _ c.requires.0 (search rules)

pub loop-i-preserved : goal.loop-i-preserved
unfolding rows_of
loop-i-preserved c = search (rules, given_next)

pub returns : goal.returns
returns c = search (rules, finished_is)
