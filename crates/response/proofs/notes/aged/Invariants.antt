use Rattle.std.proofs.Common.{◌≡◌}
use Rattle.response.specs.Note.{aged_to}
use Rattle.response.proofs.notes.aged.Given as goal

abbrev pub invariant-loop-i : goal.invariant-loop-i
invariant-loop-i l = (l.later ≡ aged_to l.s l.initial.later l.n l.i)
