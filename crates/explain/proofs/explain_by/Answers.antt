use borrow.Author.Rules.{rules}
use Rattle.explain.specs.Entry.{explain_cases}
use Rattle.explain.proofs.explain_by.Goals as goal

pub returns-then-span-gt0 : goal.returns-then-span-gt0
returns-then-span-gt0 c = search (rules, explain_cases)

pub returns : goal.returns
returns c = search (rules, explain_cases)
