use borrow.Author.Rules.{rules}
use Rattle.table.specs.Settle.{past_laws}
use Rattle.table.proofs.settle.settling.Goals as goal

pub returns-in-Some : goal.returns-in-Some
returns-in-Some c = search (rules, past_laws)

pub loop-end-init : goal.loop-end-init
loop-end-init c = search (rules, past_laws)

pub part_of-requires : goal.part_of-requires
part_of-requires c = search (rules, past_laws)

pub loop-end-preserved : goal.loop-end-preserved
loop-end-preserved c = search (rules, past_laws)

pub returns : goal.returns
returns c = search (rules, past_laws)
