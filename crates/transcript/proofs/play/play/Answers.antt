use borrow.Author.Rules.{rules}
use Rattle.transcript.specs.Play.{part_is, step_tells, step_laws}
use Rattle.transcript.specs.Plays.{play_ready, play_laws}
use Rattle.transcript.proofs.NotCall.{not_call}
use Rattle.transcript.proofs.play.play.Goals as goal

pub loop-at-init : goal.loop-at-init
loop-at-init c = search (rules, play_laws)

pub aside-p-requires : goal.aside-p-requires
aside-p-requires c = search (rules, play_laws)

pub returns-then-p : goal.returns-then-p
returns-then-p c = search (rules, play_laws, not_call)

pub loop-at-smaller-in_default : goal.loop-at-smaller-in_default
loop-at-smaller-in_default c = search (rules, play_laws)

pub loop-at-preserved-in_default : goal.loop-at-preserved-in_default
loop-at-preserved-in_default c = search (rules, play_laws, step_laws, not_call)

pub slice_bounds-call-count : goal.slice_bounds-call-count
slice_bounds-call-count c = search (rules, play_laws)

pub slice_bounds-call-start : goal.slice_bounds-call-start
slice_bounds-call-start c = search (rules, play_laws)

pub slice_bounds-call-end : goal.slice_bounds-call-end
slice_bounds-call-end c = search (rules, play_laws)

pub call-o-requires : goal.call-o-requires
call-o-requires c = search (rules, play_laws)

pub tell-p-requires : goal.tell-p-requires
tell-p-requires c =
    step_tells _ _ c.loop-at.p _ _ _ (play_ready _ _ _ _ _ _ _ _ _ _ c.loop-at.invariant (search rules))
    (part_is c.loop-at.p.from c.loop-at.p.to c.loop-at.words) c.call-o.result c.call-o.ensures

pub loop-at-smaller : goal.loop-at-smaller
loop-at-smaller c = search (rules, play_laws)

pub loop-at-preserved : goal.loop-at-preserved
loop-at-preserved c = search (rules, play_laws, step_laws, part_is)

pub returns : goal.returns
returns c = search (rules, play_laws)
