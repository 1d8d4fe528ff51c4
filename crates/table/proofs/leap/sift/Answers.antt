use borrow.Author.Rules.{rules}
use Rattle.table.specs.Leap.{further_laws}
use Rattle.table.proofs.leap.sift.Goals as goal

pub returns : goal.returns
returns c = search (rules, further_laws)
