use borrow.Author.Rules.{rules}
use Rattle.lines.specs.Code.{line_cases}
use Rattle.lines.proofs.read.read_line.Goals as goal

pub returns-then-c-eq84 : goal.returns-then-c-eq84
returns-then-c-eq84 c = search (rules, line_cases)

pub returns : goal.returns
returns c = search (rules, line_cases)
