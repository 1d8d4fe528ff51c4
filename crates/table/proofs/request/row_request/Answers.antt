use borrow.Author.Rules.{rules}
use Rattle.table.specs.Request.{request_laws}
use Rattle.table.proofs.request.row_request.Goals as goal

pub returns : goal.returns
returns c = search (rules, request_laws)
