use Rattle.response.specs.Note.{note_laws}
use borrow.Author.Rules.{rules}
use Rattle.response.proofs.notes.note.Goals as goal

pub put_end-end-requires : goal.put_end-end-requires
put_end-end-requires c = search (rules, note_laws)

pub passed-requires : goal.passed-requires
passed-requires c = search (rules, note_laws)

pub tally-requires : goal.tally-requires
tally-requires c = search (rules, note_laws)

pub returns : goal.returns
returns c = search (rules, note_laws)
