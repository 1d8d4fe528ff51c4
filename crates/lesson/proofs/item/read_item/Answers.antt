use borrow.Author.Rules.{rules}
use Rattle.lesson.specs.Read.{item_cases}
use Rattle.lesson.proofs.item.read_item.Goals as goal

pub returns : goal.returns
returns c = search (rules, item_cases)
