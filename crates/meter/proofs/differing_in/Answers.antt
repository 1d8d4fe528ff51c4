use Rattle.meter.specs.Code.{apart_laws}
use borrow.Author.Rules.{rules}
use Rattle.meter.proofs.differing_in.Goals as goal

pub loop-x-init : goal.loop-x-init
loop-x-init c = search (rules, apart_laws)

pub loop-x-preserved : goal.loop-x-preserved
loop-x-preserved c = search (rules, apart_laws)

pub returns : goal.returns
returns c = search (rules, apart_laws)
