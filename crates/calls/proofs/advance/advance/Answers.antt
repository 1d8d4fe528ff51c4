use borrow.Author.Rules.{rules}
use Rattle.session.specs.Calls.{advance_of}
use Rattle.session.specs.Guard.{guarded_laws}
use Rattle.calls.proofs.advance.advance.Goals as goal

pub advance_sound-requires : goal.advance_sound-requires
advance_sound-requires c = search (rules, guarded_laws)

pub returns-then-is_sound : goal.returns-then-is_sound
unfolding advance_of
returns-then-is_sound c = search (rules, guarded_laws)

pub returns : goal.returns
unfolding advance_of
returns c = search (rules, guarded_laws)
