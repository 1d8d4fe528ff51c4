use borrow.Author.Rules.{rules}
use Rattle.wording.specs.Bytes.{bytes_written}
use Rattle.wording.proofs.text.put_bytes.Goals as goal

pub returns : goal.returns
returns c = search (rules, bytes_written)
