use Rattle.std.proofs.Common.{refl}
use Rattle.wording.specs.Explanation.{laid}
use Rattle.wording.proofs.Parts.none.Goals as goal

pub returns : goal.returns
unfolding laid
returns c = refl
