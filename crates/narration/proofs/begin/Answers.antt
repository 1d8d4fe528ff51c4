use Rattle.narration.specs.Telling.{begun}
use borrow.Author.Rules.{rules}
use Rattle.narration.proofs.begin.Goals as goal

pub returns : goal.returns
returns c = search (rules, begun)
