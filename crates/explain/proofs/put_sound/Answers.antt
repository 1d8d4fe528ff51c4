use borrow.Author.Rules.{rules}
use Rattle.explain.specs.Entry.{text_laws}
use Rattle.explain.proofs.put_sound.Goals as goal

pub put_text-requires : goal.put_text-requires
put_text-requires c = search (rules, text_laws)

pub returns : goal.returns
returns c = search (rules, text_laws)
