use Rattle.std.proofs.Common.{rules}
use Rattle.workload.specs.Play.{called_is}
use Rattle.workload.proofs.play.called.Goals as goal

pub returns : goal.returns
returns c = search (rules, called_is)
