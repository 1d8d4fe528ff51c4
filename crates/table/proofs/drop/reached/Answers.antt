use borrow.Author.Rules.{rules}
use Rattle.table.specs.Drop.{drop_cases}
use Rattle.table.proofs.drop.reached.Goals as goal

pub returns-then-w-gt1000001 : goal.returns-then-w-gt1000001
returns-then-w-gt1000001 c = search (rules, drop_cases)

pub returns-then-v-lt4294967296 : goal.returns-then-v-lt4294967296
returns-then-v-lt4294967296 c = search (rules, drop_cases)

pub returns-then-m-surplus-lt4294967296 : goal.returns-then-m-surplus-lt4294967296
returns-then-m-surplus-lt4294967296 c = search (rules, drop_cases)

pub returns : goal.returns
returns c = search (rules, drop_cases)
