use borrow.Author.Rules.{rules}
use Rattle.bounded.proofs.AllLaws.{all_laws}
use Rattle.session.specs.Soundness.{affords_row}
use Rattle.session.proofs.sound.covered.Goals as goal

pub loop-i-init : goal.loop-i-init
loop-i-init c = search (rules, affords_row, all_laws)

pub loop-i-preserved : goal.loop-i-preserved
loop-i-preserved c = search (rules, affords_row, all_laws)

pub returns-then-not-covers : goal.returns-then-not-covers
returns-then-not-covers c = search (rules, affords_row, all_laws)

pub returns : goal.returns
returns c = search (rules, affords_row, all_laws)
