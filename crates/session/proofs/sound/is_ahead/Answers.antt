use borrow.Author.Rules.{rules}
use Rattle.session.specs.Ahead.{ahead_cases}
use Rattle.session.proofs.sound.is_ahead.Goals as goal

pub returns-then-c-eq-IDLE : goal.returns-then-c-eq-IDLE
returns-then-c-eq-IDLE c = search (rules, ahead_cases)

pub returns-else-c-eq-IDLE : goal.returns-else-c-eq-IDLE
returns-else-c-eq-IDLE c = search (rules, ahead_cases)

pub returns-else-j-gt0 : goal.returns-else-j-gt0
returns-else-j-gt0 c = search (rules, ahead_cases)
