use borrow.Author.Rules.{rules}
use Rattle.report.specs.Put.{signed_cases}
use Rattle.report.proofs.put_signed.Goals as goal

pub returns-then-v-lt0 : goal.returns-then-v-lt0
returns-then-v-lt0 c = search (rules, signed_cases)

pub returns : goal.returns
returns c = search (rules, signed_cases)
