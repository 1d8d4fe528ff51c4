use Rattle.meter.specs.Code.{differ_is}
use borrow.Author.Rules.{rules}
use Rattle.meter.proofs.differ.Goals as goal

pub returns : goal.returns
returns c = search (rules, differ_is)
