use borrow.Author.Rules.{rules}
use Rattle.meter.specs.Power.{power_laws}
use Rattle.meter.proofs.log.eighth_power.Goals as goal

pub returns : goal.returns
returns c = search (rules, power_laws)
