use borrow.Author.Rules.{rules}
use Rattle.table.specs.Rows.{run_fits}
use Rattle.session.specs.Soundness.{row_is, row_small}
use Rattle.session.proofs.sound.row_sound.Goals as goal

pub most_budget-most-requires : goal.most_budget-most-requires
most_budget-most-requires c = search (rules, run_fits)

pub job_sound-requires : goal.job_sound-requires
job_sound-requires c = search (rules, row_small)

pub returns : goal.returns
returns c = search (rules, row_is)
