use borrow.Author.Rules.{rules}
use Rattle.bounded.specs.Quotient.{ceil_div}
use Rattle.table.proofs.request.ceiling.Goals as goal

pub returns : goal.returns
unfolding ceil_div
returns c = search rules
