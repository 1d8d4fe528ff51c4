use borrow.Author.Rules.{rules}
use Rattle.calls.specs.Code.{over_cases}
use Rattle.calls.proofs.advance.over_after.Goals as goal

pub returns-then-c-eq-IDLE : goal.returns-then-c-eq-IDLE
returns-then-c-eq-IDLE c = search (rules, over_cases)

pub returns : goal.returns
returns c = search (rules, over_cases)
