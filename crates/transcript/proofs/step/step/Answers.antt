use borrow.Author.Rules.{rules}
use Rattle.transcript.specs.Play.{part_is, step_tells, step_laws}
use Rattle.transcript.proofs.NotCall.{not_call}
use Rattle.transcript.proofs.step.step.Goals as goal

pub returns-in_default : goal.returns-in_default
returns-in_default c = search (rules, step_laws, not_call)

pub tell-play-requires : goal.tell-play-requires
tell-play-requires c =
    step_tells _ _ c.args.p _ _ _ c.requires.1 (part_is c.args.p.from c.args.p.to c.args.words.now) c.call-o.result c.call-o.ensures

pub returns : goal.returns
returns c = search (rules, step_laws, part_is)
