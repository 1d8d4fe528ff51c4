use borrow.Author.Rules.{rules}
use Rattle.session.specs.Start.{words_are}
use Rattle.session.proofs.copied.Goals as goal

pub returns : goal.returns
returns c = simp c.copy_from_slice.ensures.after (words_are c.args.words.now c.min-n.result (search rules))
