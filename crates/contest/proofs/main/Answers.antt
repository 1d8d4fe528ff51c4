-- What is written fits the buffer.
use Rattle.report.specs.Whole.{filled_within}
use Rattle.contest.proofs.main.Goals as goal

pub respond-requires-clause-within : goal.respond-requires-clause-within
respond-requires-clause-within c = λ t o r left f. filled_within _ _ _ _ _ f
