use borrow.Author.Rules.{rules}
use Rattle.calls.specs.Code.{kept_cases}
use Rattle.calls.proofs.advance.kept.Goals as goal

pub returns-then-left-eq0 : goal.returns-then-left-eq0
returns-then-left-eq0 c = search (rules, kept_cases)

pub returns-else-left-eq0 : goal.returns-else-left-eq0
returns-else-left-eq0 c = search (rules, kept_cases)
