use borrow.Author.Rules.{rules}
use Rattle.table.proofs.KindLaws.{kind_cases}
use Rattle.table.proofs.kind.kind_of.Goals as goal

pub returns-then-ill_sized : goal.returns-then-ill_sized
returns-then-ill_sized c = search (rules, kind_cases)

pub returns-then-is_some : goal.returns-then-is_some
returns-then-is_some c = search (rules, kind_cases)

pub fit_kind-requires : goal.fit_kind-requires
fit_kind-requires c = search (rules, kind_cases)

pub returns : goal.returns
returns c = search (rules, kind_cases)
