use borrow.Author.Rules.{rules}
use Rattle.session.specs.Jobs.{done_start}
use Rattle.calls.proofs.CodeLaws.{aged_next}
use Rattle.calls.specs.Code.{stepped_is}
use Rattle.calls.proofs.advance.stepped.Goals as goal

pub loop-i-init : goal.loop-i-init
loop-i-init c = search (rules, done_start)

pub loop-i-preserved : goal.loop-i-preserved
loop-i-preserved c =
    let a = c in
    aged_next _ _ _ _ _ _ c.loop-i.invariant a.requires.bounds c.place_of-at.ensures.is c.aged_job.ensures

pub returns : goal.returns
returns c = search (rules, stepped_is)
