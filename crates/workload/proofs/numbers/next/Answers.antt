use Rattle.std.proofs.Common.{rules}
use Rattle.workload.specs.Numbers.{next_is}
use Rattle.workload.proofs.numbers.next.Goals as goal

pub returns : goal.returns
returns c = search (rules, next_is)
