use Rattle.meter.specs.Code.{gap_laws}
use borrow.Author.Rules.{rules}
use Rattle.meter.proofs.Schedule.gap.Goals as goal

pub entry-requires : goal.entry-requires
entry-requires c = search (rules, gap_laws)

pub returns : goal.returns
returns c = search (rules, gap_laws)
