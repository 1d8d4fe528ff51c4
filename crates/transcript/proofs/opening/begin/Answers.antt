use Rattle.transcript.specs.Opens.{begin_laws}
use borrow.Author.Rules.{rules}
use Rattle.transcript.proofs.opening.begin.Goals as goal

pub started-requires : goal.started-requires
started-requires c = search (rules, begin_laws)

pub returns : goal.returns
returns c = search (rules, begin_laws)
