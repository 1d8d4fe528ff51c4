use Rattle.std.proofs.Common.{arith, length, sym, ◌≡◌}
use Rattle.std.proofs.Math.Seq.{length-take-le}
use borrow.Author.Rules.{rules}
use Rattle.session.specs.Reading.{rows_of}
use Rattle.session.specs.Facts.{facts_of, facts_fit}
use Rattle.calls.proofs.arrive.shared_inverses.Goals as goal

pub overflow_mul-e : goal.overflow_mul-e
overflow_mul-e c = let f = facts_of _ c.requires in record { fits = omega (arith, f.few) }

pub slice_bounds-words-end : goal.slice_bounds-words-end
slice_bounds-words-end c =
    let e : length c.args.s.words ≡ 48 = search rules in
    let f = facts_of _ c.requires in
    omega (arith, f.few)

pub slice_bounds-inverses_of-end : goal.slice_bounds-inverses_of-end
slice_bounds-inverses_of-end c =
    let a = c in
    let e : length a.args.s.words ≡ 48 = search rules in
    let f = facts_of _ a.requires in
    sym (length-take-le _ _ (omega (arith, f.few)))

pub inverses_of-requires : goal.inverses_of-requires
unfolding rows_of
inverses_of-requires c = let a = c in facts_fit a.args.s (facts_of _ a.requires)

pub returns : goal.returns
unfolding rows_of
returns c = search rules
