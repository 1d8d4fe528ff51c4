use Rattle.std.proofs.Common.{rules}
use Rattle.transcript.specs.Play.{part_is}
use Rattle.transcript.proofs.NotCall.{not_call}
use Rattle.workload.specs.Play.{aside_went, used_within, went_call}
use Rattle.workload.proofs.PlayLaws.{turn_ready, play_laws}
use Rattle.workload.proofs.play.put_calls.Goals as goal

pub loop-init : goal.loop-init
loop-init c = search (rules, play_laws)

pub line_by-line-requires : goal.line_by-line-requires
line_by-line-requires c = search (rules, play_laws)

pub put_input-end-requires : goal.put_input-end-requires
put_input-end-requires c = search (rules, play_laws)

pub enum_known-line : goal.enum_known-line
enum_known-line c = search (rules, play_laws)

pub slice_bounds-aside-end : goal.slice_bounds-aside-end
slice_bounds-aside-end c = search (rules, play_laws)

pub aside-p-requires : goal.aside-p-requires
aside-p-requires c = search (rules, play_laws)

pub loop-preserved-in_default : goal.loop-preserved-in_default
loop-preserved-in_default c = search (rules, play_laws, aside_went, not_call)

pub offset_bounds-words-from : goal.offset_bounds-words-from
offset_bounds-words-from c = search (rules, play_laws)

pub slice_bounds-call-count : goal.slice_bounds-call-count
slice_bounds-call-count c = search (rules, play_laws)

pub slice_bounds-call-start : goal.slice_bounds-call-start
slice_bounds-call-start c = search (rules, play_laws)

pub slice_bounds-call-end : goal.slice_bounds-call-end
slice_bounds-call-end c = search (rules, play_laws)

pub call-o-requires : goal.call-o-requires
call-o-requires c = search (rules, play_laws)

pub called-p-requires : goal.called-p-requires
called-p-requires c =
    used_within c.loop.p c.loop.words (turn_ready _ _ _ _ _ _ _ _ _ c.loop.invariant c.loop-test.true) _ _ _
    (part_is c.loop.p.from c.loop.p.to c.loop.words) c.call-o.result c.call-o.ensures

pub loop-preserved : goal.loop-preserved
loop-preserved c = search (rules, play_laws, went_call, part_is)

pub shape_of-out : goal.shape_of-out
shape_of-out c = search (rules, play_laws)

pub returns : goal.returns
returns c = search (rules, play_laws)
