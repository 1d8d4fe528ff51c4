use Rattle.std.proofs.Common.{arith}
use Rattle.transcript.specs.Play.{part_is}
use Rattle.narration.specs.Telling.{line_told, line_laws}
use borrow.Author.Rules.{rules}
use Rattle.narration.proofs.tell_line.Goals as goal

pub next_line-n-requires : goal.next_line-n-requires
next_line-n-requires c = search (rules, line_laws)

pub step-d-requires : goal.step-d-requires
step-d-requires c = search (rules, line_laws)

pub offset_bounds-words-from : goal.offset_bounds-words-from
offset_bounds-words-from c =
    let reached = c.requires.1.reached c.requires.0 in
    record { fits = omega (arith, reached.order, reached.queued, reached.place, reached.limit) }

pub slice_bounds-put_explanation-count : goal.slice_bounds-put_explanation-count
slice_bounds-put_explanation-count c = search (rules, line_laws)

pub slice_bounds-put_explanation-start : goal.slice_bounds-put_explanation-start
slice_bounds-put_explanation-start c = search (rules, line_laws)

pub slice_bounds-put_explanation-end : goal.slice_bounds-put_explanation-end
slice_bounds-put_explanation-end c = search (rules, line_laws)

pub put_explanation-requires : goal.put_explanation-requires
put_explanation-requires c = search (rules, line_laws)

pub returns : goal.returns
returns c =
    line_told _ c.args.t _ _ c.requires.0 c.requires.1 c.requires.2 c.next_line-n.result c.next_line-n.ensures
    c.step-d.result _ _ c.step-d.ensures _ (part_is c.args.t.play.from c.args.t.play.to _) _
    c.put_explanation.result c.put_explanation.ensures c.closed.result c.closed.ensures
