-- `answer` ends, since each part begins further on in the input.
use Rattle.std.proofs.Common.{◌≡◌, ◌-◌, ◌≤◌, length}
use Rattle.narration.specs.Telling.{Going}
use Rattle.explained.proofs.answer.Given as goal

abbrev pub invariant-loop-t : goal.invariant-loop-t
invariant-loop-t g l = Going l.text l.t l.words × (2037 ≤ length l.out) × (length l.words ≡ length l.initial.words)

abbrev pub decreases-loop-t : goal.decreases-loop-t
decreases-loop-t g l = length l.text - l.t.at
