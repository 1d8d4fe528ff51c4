use borrow.Author.Rules.{rules}
use Rattle.table.specs.Sieve.{lasting_next, lasting_laws}
use Rattle.table.proofs.sieve.lasts.Goals as goal

pub loop-j-init : goal.loop-j-init
loop-j-init c = search (rules, lasting_laws)

pub bounds-marks-j : goal.bounds-marks-j
bounds-marks-j c = search (rules, lasting_laws)

pub overflow_mul-j-in-loop-j : goal.overflow_mul-j-in-loop-j
overflow_mul-j-in-loop-j c = search (rules, lasting_laws)

pub overflow_mul-result : goal.overflow_mul-result
overflow_mul-result c = search (rules, lasting_laws)

pub overflow_add-result : goal.overflow_add-result
overflow_add-result c = search (rules, lasting_laws)

pub returns-then-two-lt2 : goal.returns-then-two-lt2
returns-then-two-lt2 c = search (rules, lasting_laws)

pub overflow_mul-j-in-loop-j-2 : goal.overflow_mul-j-in-loop-j-2
overflow_mul-j-in-loop-j-2 c = search (rules, lasting_laws)

pub overflow_add-j : goal.overflow_add-j
overflow_add-j c = search (rules, lasting_laws)

pub offset_bounds-marks-j-in-loop-j : goal.offset_bounds-marks-j-in-loop-j
offset_bounds-marks-j-in-loop-j c = search (rules, lasting_laws)

pub bounds-marks-j-in-loop-j : goal.bounds-marks-j-in-loop-j
bounds-marks-j-in-loop-j c = search (rules, lasting_laws)

pub overflow_add-sum : goal.overflow_add-sum
overflow_add-sum c = search (rules, lasting_laws)

pub overflow_add-sum-in-loop-j : goal.overflow_add-sum-in-loop-j
overflow_add-sum-in-loop-j c = search (rules, lasting_laws)

pub loop-j-preserved : goal.loop-j-preserved
loop-j-preserved c =
    let asked = c.of_two-two in
    lasting_next _ _ (search rules) (search rules) _ _ (search rules) (search rules) _ (search rules) _ (search rules)
    asked.result asked.ensures (search rules)

pub returns : goal.returns
returns c = search (rules, lasting_laws)
