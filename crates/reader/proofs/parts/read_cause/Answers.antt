use Rattle.reader.specs.Code.{cause_cases}
use borrow.Author.Rules.{rules}
use Rattle.reader.proofs.parts.read_cause.Goals as goal

pub returns-in-116 : goal.returns-in-116
returns-in-116 c = search (rules, cause_cases)

pub returns-in-101 : goal.returns-in-101
returns-in-101 c = search (rules, cause_cases)

pub returns-in-104 : goal.returns-in-104
returns-in-104 c = search (rules, cause_cases)

pub returns-in_default : goal.returns-in_default
returns-in_default c = search (rules, cause_cases)
