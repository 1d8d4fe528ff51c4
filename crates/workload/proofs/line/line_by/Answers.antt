use Rattle.std.proofs.Common.{rules}
use Rattle.workload.specs.Line.{line_cases}
use Rattle.workload.proofs.line.line_by.Goals as goal

pub returns-in-Some : goal.returns-in-Some
returns-in-Some c = search (rules, line_cases)

pub returns-then-span-gt0 : goal.returns-then-span-gt0
returns-then-span-gt0 c = search (rules, line_cases)

pub returns-then-given : goal.returns-then-given
returns-then-given c = search (rules, line_cases)

pub returns : goal.returns
returns c = search (rules, line_cases)

pub overflow_cast-result : goal.overflow_cast-result
overflow_cast-result c = search (rules, line_cases)
