use Rattle.std.proofs.Common.{arith, length, sym, ◌≡◌}
use Rattle.std.proofs.Math.Seq.{length-take-le}
use borrow.Author.Rules.{rules}
use Rattle.session.specs.Reading.{rows_of}
use Rattle.session.specs.Soundness.{check_ready, check_cases}
use Rattle.session.proofs.sound.check_of.Goals as goal

pub returns-then-count-gt-ROWS : goal.returns-then-count-gt-ROWS
unfolding rows_of
returns-then-count-gt-ROWS c = search (rules, check_cases)

pub slice_bounds-words-end : goal.slice_bounds-words-end
slice_bounds-words-end c = let e : length c.args.s.words ≡ 48 = search rules in omega arith

pub slice_bounds-kind_of-end : goal.slice_bounds-kind_of-end
slice_bounds-kind_of-end c =
    let e : length c.args.s.words ≡ 48 = search rules in
    sym (length-take-le _ _ (omega arith))

pub returns-in_err-k : goal.returns-in_err-k
unfolding rows_of
returns-in_err-k c = search (rules, check_cases)

pub returns-then-from-s : goal.returns-then-from-s
unfolding rows_of
returns-then-from-s c = search (rules, check_cases)

pub returns-then-s-gt-CLOCK_END : goal.returns-then-s-gt-CLOCK_END
unfolding rows_of
returns-then-s-gt-CLOCK_END c = search (rules, check_cases)

pub jobs_sound-requires : goal.jobs_sound-requires
unfolding rows_of
jobs_sound-requires c =
    let e : length c.args.s.words ≡ 48 = search rules in
    search (rules, check_ready, c.in_ok-k.was)

pub returns-then-not-jobs_sound : goal.returns-then-not-jobs_sound
unfolding rows_of
returns-then-not-jobs_sound c = search (rules, check_cases)

pub returns-then-not-choice_sound : goal.returns-then-not-choice_sound
unfolding rows_of
returns-then-not-choice_sound c = search (rules, check_cases)

pub returns : goal.returns
unfolding rows_of
returns c =
    let e : length c.args.s.words ≡ 48 = search rules in
    search (rules, check_cases)
