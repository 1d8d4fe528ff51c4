use borrow.Author.Rules.{rules}
use Rattle.explain.specs.Entry.{told_cases}
use Rattle.explain.proofs.tell.Goals as goal

pub returns-in_default : goal.returns-in_default
returns-in_default c = search (rules, told_cases)

pub returns : goal.returns
returns c = search (rules, told_cases)
