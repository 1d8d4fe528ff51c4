use Rattle.std.proofs.Common.{arith}
use Rattle.meter.specs.Rule.{fit_laws, fit_not, ticks_few}
use borrow.Author.Rules.{rules}
use Rattle.meter.proofs.is_fit.Goals as goal

pub returns-then-n-lt1 : goal.returns-then-n-lt1
returns-then-n-lt1 c = fit_not _ _ (λ f. omega (arith, c.then-n-lt1.either, ticks_few _ _ f))

pub returns-then-size-le16384 : goal.returns-then-size-le16384
returns-then-size-le16384 c = search (rules, fit_laws)

pub returns-else-size-le16384 : goal.returns-else-size-le16384
returns-else-size-le16384 c = search (rules, fit_laws)
