use borrow.Author.Rules.{rules}
use Rattle.explain.specs.Entry.{explain_cases}
use Rattle.explain.proofs.explain.Goals as goal

pub returns-in_default : goal.returns-in_default
returns-in_default c = search (rules, explain_cases)

pub returns : goal.returns
returns c = search (rules, explain_cases)
