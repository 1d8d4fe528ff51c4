use Rattle.response.specs.Note.{aged_laws}
use borrow.Author.Rules.{rules}
use Rattle.response.proofs.notes.aged.Goals as goal

pub place_of-at-requires : goal.place_of-at-requires
place_of-at-requires c = search (rules, aged_laws)

pub offset_bounds-s-at : goal.offset_bounds-s-at
offset_bounds-s-at c = search (rules, aged_laws)

pub bounds-s-at : goal.bounds-s-at
bounds-s-at c = search (rules, aged_laws)

pub loop-i-init : goal.loop-i-init
loop-i-init c = search (rules, aged_laws)

pub offset_bounds-s-i : goal.offset_bounds-s-i
offset_bounds-s-i c = search (rules, aged_laws)

pub bounds-s-i : goal.bounds-s-i
bounds-s-i c = search (rules, aged_laws)

pub offset_bounds-later-i : goal.offset_bounds-later-i
offset_bounds-later-i c = search (rules, aged_laws)

pub bounds-later-i : goal.bounds-later-i
bounds-later-i c = search (rules, aged_laws)

pub is_ahead-requires : goal.is_ahead-requires
is_ahead-requires c = search (rules, aged_laws)

pub overflow_add-later : goal.overflow_add-later
overflow_add-later c = search (rules, aged_laws)

pub loop-i-preserved : goal.loop-i-preserved
loop-i-preserved c = search (rules, aged_laws)

pub returns : goal.returns
returns c = search (rules, aged_laws)
