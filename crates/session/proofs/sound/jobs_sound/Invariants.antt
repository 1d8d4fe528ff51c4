use Rattle.std.proofs.Common.{true, ◌≡◌}
use Rattle.bounded.specs.All.{all_to}
use Rattle.session.specs.Sound.{sound_job}
use Rattle.session.proofs.sound.jobs_sound.Given as goal

abbrev pub invariant-loop-i : goal.invariant-loop-i
invariant-loop-i l = all_to (sound_job l.s) l.i ≡ true
