use borrow.Author.Rules.{rules}
use Rattle.session.specs.Soundness.{choice_cases}
use Rattle.session.proofs.sound.choice_sound.Goals as goal

pub returns-then-span-eq0 : goal.returns-then-span-eq0
returns-then-span-eq0 c = search (rules, choice_cases)

pub returns-then-span-gt-HORIZON : goal.returns-then-span-gt-HORIZON
returns-then-span-gt-HORIZON c = search (rules, choice_cases)

pub returns-then-c-eq-IDLE : goal.returns-then-c-eq-IDLE
returns-then-c-eq-IDLE c = search (rules, choice_cases)

pub returns-then-count-c : goal.returns-then-count-c
returns-then-count-c c = search (rules, choice_cases)

pub returns-then-span-k : goal.returns-then-span-k
returns-then-span-k c = search (rules, choice_cases)

pub returns-else-span-k : goal.returns-else-span-k
returns-else-span-k c = search (rules, choice_cases)

pub returns-then-k-lt1 : goal.returns-then-k-lt1
returns-then-k-lt1 c = search (rules, choice_cases)
