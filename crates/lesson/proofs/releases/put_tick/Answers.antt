use Rattle.lesson.specs.Put.{tick_laws}
use borrow.Author.Rules.{rules}
use Rattle.lesson.proofs.releases.put_tick.Goals as goal

pub count-rows-requires : goal.count-rows-requires
count-rows-requires c = search (rules, tick_laws)

pub loop-i-init : goal.loop-i-init
loop-i-init c = search (rules, tick_laws)

pub put_release-e-requires : goal.put_release-e-requires
put_release-e-requires c = search (rules, tick_laws)

pub loop-i-preserved : goal.loop-i-preserved
loop-i-preserved c = search (rules, tick_laws)

pub shape_of-out : goal.shape_of-out
shape_of-out c = search (rules, tick_laws)

pub returns : goal.returns
returns c = search (rules, tick_laws)
