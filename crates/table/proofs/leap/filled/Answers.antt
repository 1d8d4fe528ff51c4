use borrow.Author.Rules.{rules}
use Rattle.table.specs.Leap.{leap_cases}
use Rattle.table.proofs.leap.filled.Goals as goal

pub returns-then-u-gt4294967296 : goal.returns-then-u-gt4294967296
returns-then-u-gt4294967296 c = search (rules, leap_cases)

pub returns-then-w-eq0 : goal.returns-then-w-eq0
returns-then-w-eq0 c = search (rules, leap_cases)

pub returns-then-u-ge4294967296 : goal.returns-then-u-ge4294967296
returns-then-u-ge4294967296 c = search (rules, leap_cases)

pub returns : goal.returns
returns c = search (rules, leap_cases)
