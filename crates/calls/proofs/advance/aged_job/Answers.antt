use borrow.Author.Rules.{rules}
use Rattle.calls.specs.Code.{aged_cases}
use Rattle.calls.proofs.advance.aged_job.Goals as goal

pub returns-then-j-n : goal.returns-then-j-n
returns-then-j-n c = search (rules, aged_cases)

pub returns-then-i-c : goal.returns-then-i-c
returns-then-i-c c = search (rules, aged_cases)

pub returns-then-is_ahead : goal.returns-then-is_ahead
returns-then-is_ahead c = search (rules, aged_cases)

pub returns : goal.returns
returns c = search (rules, aged_cases)
