use Rattle.std.proofs.Common.{arith, length, refl, sym, ◌<◌, ◌≡◌}
use Rattle.std.proofs.Math.Seq.{length-take-le}
use borrow.Author.Rules.{rules}
use Rattle.bounded.specs.Sum.{sum_start}
use Rattle.table.specs.Inverse.{tame_of}
use Rattle.session.specs.Reading.{rows_of}
use Rattle.session.specs.Facts.{facts_of}
use Rattle.calls.specs.Code.{places, place_fits, facts_rows, arrive_cases}
use Rattle.calls.specs.Code.{asked_laws, asked_done, asked_fit, asked_row, asked_left, asked_clock, asked_run, asked_deadline, asked_period, asked_small, asked_most, asked_few}
use Rattle.calls.proofs.CodeLaws.{asked_next}
use Rattle.calls.proofs.arrive.arrive_by.Goals as goal

pub returns-then-count-row : goal.returns-then-count-row
returns-then-count-row g c = search (rules, arrive_cases)

pub offset_bounds-q-i : goal.offset_bounds-q-i
offset_bounds-q-i g c = search (rules, places)

pub bounds-q-i : goal.bounds-q-i
bounds-q-i g c = search (rules, places)

pub returns-then-clock-old : goal.returns-then-clock-old
returns-then-clock-old g c = search (rules, arrive_cases)

pub overflow_mul-e : goal.overflow_mul-e
overflow_mul-e g c = let a = c in let f = facts_of _ a.requires.0 in record { fits = omega (arith, f.few) }

pub slice_bounds-words-end : goal.slice_bounds-words-end
slice_bounds-words-end g c =
    let a = c in
    let e : length a.args.s.words ≡ 48 = search rules in
    let f = facts_of _ a.requires.0 in
    omega (arith, f.few)

pub slice_bounds-rows-end : goal.slice_bounds-rows-end
slice_bounds-rows-end g c =
    let a = c in
    let e : length a.args.s.words ≡ 48 = search rules in
    let f = facts_of _ a.requires.0 in
    sym (length-take-le _ _ (omega (arith, f.few)))

pub fit_row-k-requires : goal.fit_row-k-requires
unfolding rows_of
fit_row-k-requires g c =
    let a = c in
    let e : length a.args.s.words ≡ 48 = search rules in
    facts_rows a.args.s a.args.row (facts_of _ a.requires.0) e (search rules)

pub bounds-brittle-i : goal.bounds-brittle-i
bounds-brittle-i g c = search (rules, places)

pub loop-j-init : goal.loop-j-init
unfolding rows_of
loop-j-init g c =
    let a = c in
    let l : a.args.row < a.args.s.count = search rules in (
      record {
        sound = a.requires.0;
        places = search rules;
        table = refl;
        mark = a.requires.2.at l;
        task = search rules;
        now = refl;
        looked = search rules;
        known = l;
        ready = search rules;
      },
      sum_start _,
      search rules,
      a.requires.1,
    )

pub prepared-p-requires : goal.prepared-p-requires
prepared-p-requires g c = let h = c.loop-j.invariant in (asked_fit h.0, h.3, asked_row h.0 _ (search rules))

pub offset_bounds-q-j : goal.offset_bounds-q-j
offset_bounds-q-j g c = search (rules, asked_laws, place_fits)

pub bounds-q-j : goal.bounds-q-j
bounds-q-j g c = search (rules, asked_laws)

pub charge-asked-requires : goal.charge-asked-requires
charge-asked-requires g c =
    let k = c.loop-j.invariant.0 in (search (rules, tame_of), asked_left k _ (search rules), asked_clock k, asked_deadline k)

pub overflow_add-asked : goal.overflow_add-asked
overflow_add-asked g c = search (rules, asked_laws)

pub loop-j-preserved : goal.loop-j-preserved
loop-j-preserved g c =
    let k = c.loop-j.invariant.0 in
    let f = c.prepared-p.ensures in
    let w = c.charge-asked.ensures in
    let h = c.loop-j.invariant in
    (k, asked_next k _ (search rules) _ _ _ f w h.1, asked_small k _ (search rules) _ _ _ f w h.2, h.3)

pub bounds-brittle-i-2 : goal.bounds-brittle-i-2
bounds-brittle-i-2 g c = search (rules, places)

pub arriving-job-requires : goal.arriving-job-requires
arriving-job-requires g c =
    let k = c.loop-j.invariant.0 in
    (asked_run k, asked_deadline k, asked_period k, asked_clock k, asked_most k _ _ c.loop-j.invariant.2 (search rules))

pub offset_bounds-q-i-2 : goal.offset_bounds-q-i-2
offset_bounds-q-i-2 g c = let k = c.loop-j.invariant.0 in place_fits _ (omega (arith, k.known, asked_few k))

pub bounds-q-i-2 : goal.bounds-q-i-2
bounds-q-i-2 g c = search (rules, places)

pub returns : goal.returns
returns g c =
    let h = c.loop-j.invariant in asked_done h.0 _ _ h.2 (search rules) _ (search rules) h.1 (search rules)
