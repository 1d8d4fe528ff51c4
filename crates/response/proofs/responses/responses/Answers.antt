use Rattle.response.specs.Responses.{responses_laws}
use borrow.Author.Rules.{rules}
use Rattle.response.proofs.responses.responses.Goals as goal

pub inverses_of-inverses-requires : goal.inverses_of-inverses-requires
inverses_of-inverses-requires c = search (rules, responses_laws)

pub rows-rows-requires : goal.rows-rows-requires
rows-rows-requires c = search (rules, responses_laws)

pub loop-i-init : goal.loop-i-init
loop-i-init c = search (rules, responses_laws)

pub row-k-requires : goal.row-k-requires
row-k-requires c = search (rules, responses_laws)

pub interfering-requires : goal.interfering-requires
interfering-requires c = search (rules, responses_laws)

pub overflow_add-spans : goal.overflow_add-spans
overflow_add-spans c = search (rules, responses_laws)

pub offset_bounds-spans-i : goal.offset_bounds-spans-i
offset_bounds-spans-i c = search (rules, responses_laws)

pub bounds-spans-i : goal.bounds-spans-i
bounds-spans-i c = search (rules, responses_laws)

pub loop-i-preserved : goal.loop-i-preserved
loop-i-preserved c = search (rules, responses_laws)

pub returns : goal.returns
returns c = search (rules, responses_laws)
