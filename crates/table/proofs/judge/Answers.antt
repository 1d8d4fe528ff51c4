use borrow.Author.Rules.{rules}
use Rattle.table.specs.Overload.{found_exceeds}
use Rattle.table.specs.Opinion.{judge_cases}
use Rattle.table.proofs.judge.Goals as goal

pub returns-then-b : goal.returns-then-b
returns-then-b c = search (rules, judge_cases)

pub first-requires : goal.first-requires
first-requires c = search (rules, found_exceeds)

pub returns-in-Some : goal.returns-in-Some
returns-in-Some c = search (rules, judge_cases)

pub returns-then-is_none : goal.returns-then-is_none
returns-then-is_none c = search (rules, judge_cases)

pub returns-then-b-2 : goal.returns-then-b-2
returns-then-b-2 c = search (rules, judge_cases)

pub returns-else-b-2 : goal.returns-else-b-2
returns-else-b-2 c = search (rules, judge_cases)
