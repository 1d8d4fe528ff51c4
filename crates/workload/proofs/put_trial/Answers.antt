use Rattle.std.proofs.Common.{sym, arith, length-take-le, rules}
use Rattle.workload.specs.Entry.{trial_laws}
use Rattle.workload.proofs.put_trial.Goals as goal

pub overflow_mul-e : goal.overflow_mul-e
overflow_mul-e c = search (rules, trial_laws)

pub slice_bounds-words-end : goal.slice_bounds-words-end
slice_bounds-words-end c = search (rules, trial_laws)

pub slice_bounds-fresh-end : goal.slice_bounds-fresh-end
slice_bounds-fresh-end c = sym (length-take-le _ _ (omega arith))

pub put_calls-requires : goal.put_calls-requires
put_calls-requires c = search (rules, trial_laws)

pub returns : goal.returns
returns c = search (rules, trial_laws)
