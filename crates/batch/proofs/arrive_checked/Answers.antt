use borrow.Author.Rules.{rules}
use Rattle.batch.specs.Walk.{checked_in, checked_out, known_asks}
use Rattle.batch.proofs.arrive_checked.Goals as goal

pub arrive_by-requires : goal.arrive_by-requires
arrive_by-requires c = search (rules, known_asks)

pub returns-in_default : goal.returns-in_default
returns-in_default c = search (rules, checked_out)

pub returns : goal.returns
returns c =
    checked_in c.args.s c.args.a.row _ (search rules) (search rules) c.args.shared c.in-Some.known (search rules) (search rules) (search rules)
