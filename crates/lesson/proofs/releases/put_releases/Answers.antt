use Rattle.lesson.specs.Put.{releases_laws}
use borrow.Author.Rules.{rules}
use Rattle.lesson.proofs.releases.put_releases.Goals as goal

pub loop-c-init : goal.loop-c-init
loop-c-init c = search (rules, releases_laws)

pub put_tick-e-requires : goal.put_tick-e-requires
put_tick-e-requires c = search (rules, releases_laws)

pub loop-c-preserved : goal.loop-c-preserved
loop-c-preserved c = search (rules, releases_laws)

pub shape_of-out : goal.shape_of-out
shape_of-out c = search (rules, releases_laws)

pub returns : goal.returns
returns c = search (rules, releases_laws)
