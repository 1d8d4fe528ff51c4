use borrow.Author.Rules.{rules}
use Rattle.table.specs.Request.{ask_laws}
use Rattle.table.proofs.request.ask.Goals as goal

pub overflow_mul-result : goal.overflow_mul-result
overflow_mul-result c = search (rules, ask_laws)

pub returns : goal.returns
returns c = search (rules, ask_laws)
