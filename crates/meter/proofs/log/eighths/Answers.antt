use borrow.Author.Rules.{rules}
use Rattle.meter.specs.Power.{eighths_laws}
use Rattle.meter.proofs.log.eighths.Goals as goal

pub eighth_power-requires : goal.eighth_power-requires
eighth_power-requires c = search rules

pub highest_one-requires : goal.highest_one-requires
highest_one-requires c = search (rules, eighths_laws)

pub returns : goal.returns
returns c = search (rules, eighths_laws)
