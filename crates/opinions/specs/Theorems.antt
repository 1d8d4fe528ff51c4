-- The proof of Statement.antt. Assumes nothing.
use Rattle.std.proofs.Common.{sym, ap, ◌∙◌}
use Rattle.std.specs.Prelude.{List, [], ◌∷◌, ◌++◌, ℕ}
use Rattle.transcript.specs.Alone.{rows_alone}
use Rattle.desk.specs.Theorems.{rows_judged}
use Rattle.opinions.specs.Statement.{AsShuffle}

pub as_shuffle : AsShuffle
as_shuffle n rows some few = rows_judged n rows some few ∙ sym (ap (λ (t : List ℕ). t ++ 10 ∷ []) (rows_alone rows few))
