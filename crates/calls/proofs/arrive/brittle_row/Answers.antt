use Rattle.std.proofs.Common.{arith, length, sym, ◌≡◌}
use Rattle.std.proofs.Math.Seq.{length-take-le}
use borrow.Author.Rules.{rules}
use Rattle.session.specs.Reading.{rows_of}
use Rattle.session.specs.Facts.{facts_of}
use Rattle.calls.specs.Code.{facts_rows, marked_cases}
use Rattle.calls.proofs.arrive.brittle_row.Goals as goal

pub returns-then-count-row : goal.returns-then-count-row
returns-then-count-row c = search (rules, marked_cases)

pub overflow_mul-e : goal.overflow_mul-e
overflow_mul-e c = let a = c in let f = facts_of _ a.requires.0 in record { fits = omega (arith, f.few) }

pub slice_bounds-words-end : goal.slice_bounds-words-end
slice_bounds-words-end c =
    let a = c in
    let e : length a.args.s.words ≡ 48 = search rules in
    let f = facts_of _ a.requires.0 in
    omega (arith, f.few)

pub slice_bounds-table-end : goal.slice_bounds-table-end
slice_bounds-table-end c =
    let a = c in
    let e : length a.args.s.words ≡ 48 = search rules in
    let f = facts_of _ a.requires.0 in
    sym (length-take-le _ _ (omega (arith, f.few)))

pub invariant_of-table : goal.invariant_of-table
unfolding rows_of
invariant_of-table c =
    let a = c in
    let e : length a.args.s.words ≡ 48 = search rules in
    let r = facts_rows a.args.s a.args.row (facts_of _ a.requires.0) e (search rules) in
    record { fit = r.0; ready = a.requires.1 }

pub value_of-v-requires : goal.value_of-v-requires
unfolding rows_of
value_of-v-requires c =
    let a = c in
    let e : length a.args.s.words ≡ 48 = search rules in
    let r = facts_rows a.args.s a.args.row (facts_of _ a.requires.0) e (search rules) in
    r.1

pub returns : goal.returns
unfolding rows_of
returns c = search (rules, marked_cases)
