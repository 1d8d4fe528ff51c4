use Rattle.std.proofs.Common.{rules}
use Rattle.workload.specs.Entry.{generate_cases}
use Rattle.workload.proofs.generate.Goals as goal

pub returns-then-out-lt-LONGEST : goal.returns-then-out-lt-LONGEST
returns-then-out-lt-LONGEST c = search (rules, generate_cases)

pub returns : goal.returns
returns c = search (rules, generate_cases)
