use borrow.Author.Rules.{rules}
use Rattle.wording.specs.Write.{decided_some}
use Rattle.wording.proofs.text.put_decided.Goals as goal

pub returns-in-Some : goal.returns-in-Some
returns-in-Some c = search (rules, decided_some)
