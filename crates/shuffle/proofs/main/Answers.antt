-- What is written fits the buffer.
use Rattle.report.specs.Whole.{filled_within}
use Rattle.shuffle.proofs.main.Goals as goal

pub serve-requires-clause-within : goal.serve-requires-clause-within
serve-requires-clause-within c = λ t o r left f. filled_within _ _ _ _ _ f
