use Rattle.planning.specs.Put.{put_cost_cases}
use borrow.Author.Rules.{rules}
use Rattle.planning.proofs.put_cost.Goals as goal

pub returns-then-k : goal.returns-then-k
returns-then-k c = search (rules, put_cost_cases)

pub returns : goal.returns
returns c = search (rules, put_cost_cases)
