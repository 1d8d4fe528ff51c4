use borrow.Author.Rules.{rules}
use Rattle.wording.specs.Write.{span_is}
use Rattle.wording.proofs.text.put_span.Goals as goal

pub returns : goal.returns
returns c = search (rules, span_is)
