use borrow.Author.Rules.{rules}
use Rattle.desk.specs.Step.{close_is}
use Rattle.desk.proofs.step.close.Goals as goal

pub returns : goal.returns
returns c = search (rules, close_is)
