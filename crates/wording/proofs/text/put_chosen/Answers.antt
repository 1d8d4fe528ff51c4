use borrow.Author.Rules.{rules}
use Rattle.wording.specs.Write.{chosen_cases}
use Rattle.wording.proofs.text.put_chosen.Goals as goal

pub returns-then-chosen-eq16 : goal.returns-then-chosen-eq16
returns-then-chosen-eq16 c = search (rules, chosen_cases)

pub returns : goal.returns
returns c = search (rules, chosen_cases)
