use borrow.Author.Rules.{rules}
use Rattle.wording.specs.Write.{brittle_cases}
use Rattle.wording.proofs.text.put_brittle.Goals as goal

pub returns-in-None : goal.returns-in-None
returns-in-None c = search (rules, brittle_cases)

pub returns-in-Some : goal.returns-in-Some
returns-in-Some c = search (rules, brittle_cases)
