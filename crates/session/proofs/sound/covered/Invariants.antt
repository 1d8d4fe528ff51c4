use Rattle.std.proofs.Common.{true, ◌≡◌}
use Rattle.bounded.specs.All.{all_to}
use Rattle.session.specs.Sound.{affords}
use Rattle.session.proofs.sound.covered.Given as goal

abbrev pub invariant-loop-i : goal.invariant-loop-i
invariant-loop-i l = all_to (affords l.s l.c l.n) l.i ≡ true
