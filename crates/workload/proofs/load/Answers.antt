use Rattle.std.proofs.Common.{rules}
use Rattle.workload.proofs.EntryLaws.{load_cases}
use Rattle.workload.proofs.load.Goals as goal

pub returns-in-Some : goal.returns-in-Some
returns-in-Some c = search (rules, load_cases)

pub returns-in-None : goal.returns-in-None
returns-in-None c = search (rules, load_cases)
