use Rattle.meter.specs.Rule.{measure_laws}
use borrow.Author.Rules.{rules}
use Rattle.meter.proofs.measure.Goals as goal

pub returns-then-not-is_fit : goal.returns-then-not-is_fit
returns-then-not-is_fit c = search (rules, measure_laws)

pub invariant_of-schedule : goal.invariant_of-schedule
invariant_of-schedule c = search (rules, measure_laws)

pub returns : goal.returns
returns c = search (rules, measure_laws)
