use Rattle.std.proofs.Common.{◌-◌}
use borrow.Author.Tests.{not-true, not-false}
use Rattle.narration.specs.Telling.{telling_laws}
use borrow.Author.Rules.{rules}
use Rattle.narration.proofs.more.Goals as goal

pub loop-t-init : goal.loop-t-init
loop-t-init c = search (rules, telling_laws)

pub returns-then-out-t-lt-LONGEST : goal.returns-then-out-t-lt-LONGEST
returns-then-out-t-lt-LONGEST c = search (rules, telling_laws)

pub tell_line-t-requires : goal.tell_line-t-requires
tell_line-t-requires c = search (rules, not-true)

pub loop-t-smaller : goal.loop-t-smaller
loop-t-smaller c = search (rules, telling_laws, not-true)

pub loop-t-preserved : goal.loop-t-preserved
loop-t-preserved c = search (rules, telling_laws)

pub returns : goal.returns
returns c = search (rules, telling_laws, not-false)
