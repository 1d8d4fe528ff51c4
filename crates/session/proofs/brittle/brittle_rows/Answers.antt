use Rattle.std.proofs.Common.{arith, length, sym, ◌≡◌}
use Rattle.std.proofs.Math.Seq.{length-take-le}
use borrow.Author.Rules.{rules}
use Rattle.session.specs.Reading.{rows_of}
use Rattle.session.specs.Facts.{facts_of, facts_fit}
use Rattle.session.specs.Brittle.{marks_cases}
use Rattle.session.proofs.brittle.brittle_rows.Goals as goal

pub returns-then-kind-eq1 : goal.returns-then-kind-eq1
returns-then-kind-eq1 c = let e : length c.args.s.words ≡ 48 = search rules in search (rules, marks_cases)

pub returns-then-kind-eq2 : goal.returns-then-kind-eq2
returns-then-kind-eq2 c = let e : length c.args.s.words ≡ 48 = search rules in search (rules, marks_cases)

pub overflow_mul-e : goal.overflow_mul-e
overflow_mul-e c = let f = facts_of _ c.requires in record { fits = omega (arith, f.few) }

pub slice_bounds-words-end : goal.slice_bounds-words-end
slice_bounds-words-end c =
    let a = c in
    let e : length a.args.s.words ≡ 48 = search rules in
    let f = facts_of _ a.requires in
    omega (arith, f.few)

pub slice_bounds-rows-end : goal.slice_bounds-rows-end
slice_bounds-rows-end c =
    let a = c in
    let e : length a.args.s.words ≡ 48 = search rules in
    let f = facts_of _ a.requires in
    sym (length-take-le _ _ (omega (arith, f.few)))

pub inverses_of-inverses-requires : goal.inverses_of-inverses-requires
unfolding rows_of
inverses_of-inverses-requires c = let a = c in facts_fit a.args.s (facts_of _ a.requires)

pub invariant_of-table-clause-fit : goal.invariant_of-table-clause-fit
unfolding rows_of
invariant_of-table-clause-fit c = let a = c in facts_fit a.args.s (facts_of _ a.requires)

pub returns : goal.returns
unfolding rows_of
returns c =
    let e : length c.args.s.words ≡ 48 = search rules in
    search (rules, marks_cases)
