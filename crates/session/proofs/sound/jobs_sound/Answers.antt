use Rattle.std.proofs.Common.{arith, sym}
use Rattle.std.proofs.Math.Seq.{length-take-le}
use borrow.Author.Rules.{rules}
use Rattle.bounded.proofs.AllLaws.{all_laws}
use Rattle.session.specs.Reading.{rows_of}
use Rattle.session.specs.Soundness.{job_turn, checked_fit}
use Rattle.session.proofs.sound.jobs_sound.Goals as goal

pub slice_bounds-rows-end : goal.slice_bounds-rows-end
slice_bounds-rows-end c = sym (length-take-le _ _ (omega arith))

pub loop-i-init : goal.loop-i-init
loop-i-init c = search (rules, job_turn, all_laws)

pub row_sound-requires : goal.row_sound-requires
unfolding rows_of
row_sound-requires c = search (rules, checked_fit)

pub loop-i-preserved : goal.loop-i-preserved
unfolding rows_of
loop-i-preserved c = search (rules, job_turn, all_laws)

pub returns-then-not-row_sound : goal.returns-then-not-row_sound
unfolding rows_of
returns-then-not-row_sound c = search (rules, job_turn, all_laws)

pub returns : goal.returns
returns c = search (rules, job_turn, all_laws)
