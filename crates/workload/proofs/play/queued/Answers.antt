use Rattle.std.proofs.Common.{rules}
use Rattle.workload.specs.Play.{went_word}
use Rattle.workload.proofs.play.queued.Goals as goal

pub returns : goal.returns
returns c = search (rules, went_word)
