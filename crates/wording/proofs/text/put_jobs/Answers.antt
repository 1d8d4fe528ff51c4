use borrow.Author.Rules.{rules}
use Rattle.wording.specs.Write.{listed_laws}
use Rattle.wording.proofs.text.put_jobs.Goals as goal

pub loop-j-init : goal.loop-j-init
loop-j-init c = search (rules, listed_laws)

pub loop-j-preserved : goal.loop-j-preserved
loop-j-preserved c = search (rules, listed_laws)

pub returns : goal.returns
returns c = search (rules, listed_laws)
