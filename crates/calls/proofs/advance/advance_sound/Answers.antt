use borrow.Author.Rules.{rules}
use Rattle.calls.specs.Code.{advance_cases, step_fits, step_ready}
use Rattle.calls.proofs.advance.advance_sound.Goals as goal

pub returns-then-span-eq0 : goal.returns-then-span-eq0
returns-then-span-eq0 c = search (rules, advance_cases)

pub returns-then-n-eq0 : goal.returns-then-n-eq0
returns-then-n-eq0 c = search (rules, advance_cases)

pub returns-then-span-n : goal.returns-then-span-n
returns-then-span-n c = search (rules, advance_cases)

pub overflow_add-s : goal.overflow_add-s
overflow_add-s c = search (rules, step_fits)

pub returns-then-s-n-gt-CLOCK_END : goal.returns-then-s-n-gt-CLOCK_END
returns-then-s-n-gt-CLOCK_END c = search (rules, advance_cases)

pub stepped-requires : goal.stepped-requires
stepped-requires c = search (rules, step_ready)

pub returns : goal.returns
returns c = search (rules, advance_cases)
