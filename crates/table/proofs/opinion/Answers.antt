use borrow.Author.Rules.{rules}
use Rattle.table.proofs.OpinionLaws.{opinion_cases}
use Rattle.table.proofs.opinion.Goals as goal

pub returns-then-ill_sized : goal.returns-then-ill_sized
returns-then-ill_sized c = search (rules, opinion_cases)

pub returns-in-Some : goal.returns-in-Some
returns-in-Some c = search (rules, opinion_cases)

pub judge-requires : goal.judge-requires
judge-requires c = search (rules, opinion_cases)

pub returns-in-None : goal.returns-in-None
returns-in-None c = search (rules, opinion_cases)
