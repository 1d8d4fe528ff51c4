use Rattle.response.specs.Opening.{besides_cases}
use borrow.Author.Rules.{rules}
use Rattle.response.proofs.put_besides.Goals as goal

pub put_costs-requires : goal.put_costs-requires
put_costs-requires c = search (rules, besides_cases)

pub returns-in_default : goal.returns-in_default
returns-in_default c = search (rules, besides_cases)

pub put_cuts-requires : goal.put_cuts-requires
put_cuts-requires c = search (rules, besides_cases)

pub returns-in-Overload : goal.returns-in-Overload
returns-in-Overload c = search (rules, besides_cases)

pub returns-in-Length : goal.returns-in-Length
returns-in-Length c = search (rules, besides_cases)

pub returns-in-Row : goal.returns-in-Row
returns-in-Row c = search (rules, besides_cases)

pub returns-in-Unsettled : goal.returns-in-Unsettled
returns-in-Unsettled c = search (rules, besides_cases)
