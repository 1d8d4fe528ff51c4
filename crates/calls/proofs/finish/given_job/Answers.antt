use borrow.Author.Rules.{rules}
use Rattle.table.specs.Rows.{run_fits}
use Rattle.calls.specs.Code.{given_cases}
use Rattle.calls.proofs.finish.given_job.Goals as goal

pub returns-then-i-c : goal.returns-then-i-c
returns-then-i-c c = search (rules, given_cases)

pub overflow_sub-k : goal.overflow_sub-k
overflow_sub-k c = search (rules, run_fits)

pub returns-then-gains : goal.returns-then-gains
returns-then-gains c = search (rules, given_cases)

pub returns : goal.returns
returns c = search (rules, given_cases)
