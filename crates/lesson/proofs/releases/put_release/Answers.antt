use Rattle.lesson.specs.Put.{release_cases}
use borrow.Author.Rules.{rules}
use Rattle.lesson.proofs.releases.put_release.Goals as goal

pub returns-then-c-k-ne0 : goal.returns-then-c-k-ne0
returns-then-c-k-ne0 c = search (rules, release_cases)

pub returns-then-t-due : goal.returns-then-t-due
returns-then-t-due c = search (rules, release_cases)

pub returns : goal.returns
returns c = search (rules, release_cases)
