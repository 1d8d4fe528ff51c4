use borrow.Author.Rules.{rules}
use Rattle.table.specs.Sieve.{of_two_cases}
use Rattle.table.proofs.sieve.of_two.Goals as goal

pub returns-then-k-sum : goal.returns-then-k-sum
returns-then-k-sum c = search (rules, of_two_cases)

pub returns-then-sum-k : goal.returns-then-sum-k
returns-then-sum-k c = search (rules, of_two_cases)

pub returns-then-m-eq0 : goal.returns-then-m-eq0
returns-then-m-eq0 c = search (rules, of_two_cases)

pub returns-else-m-eq0 : goal.returns-else-m-eq0
returns-else-m-eq0 c = search (rules, of_two_cases)
