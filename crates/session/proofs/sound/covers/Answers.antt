use borrow.Author.Rules.{rules}
use Rattle.session.specs.Soundness.{affords_cases}
use Rattle.session.proofs.sound.covers.Goals as goal

pub returns-then-not-is_ahead : goal.returns-then-not-is_ahead
returns-then-not-is_ahead c = search (rules, affords_cases)

pub returns-else-not-is_ahead : goal.returns-else-not-is_ahead
returns-else-not-is_ahead c = search (rules, affords_cases)
