use Rattle.transcript.specs.Entry.{print_laws}
use borrow.Author.Rules.{rules}
use Rattle.transcript.proofs.print.Goals as goal

pub returns-then-p : goal.returns-then-p
returns-then-p c = search (rules, print_laws)

pub play-requires : goal.play-requires
play-requires c = search (rules, print_laws)

pub returns : goal.returns
returns c = search (rules, print_laws)
