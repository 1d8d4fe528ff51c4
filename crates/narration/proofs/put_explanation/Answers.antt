use Rattle.std.proofs.Common.{[], ◌∷◌, ◌≡◌}
use denote.Enum.Declared.{tag_of}
use types.Run.{OneOf, miss}
use Rattle.lines.specs.contracts.read.Call.{the_type as call_type}
use Rattle.lines.specs.declared.read.Call.{Call}
use Rattle.lines.specs.declared.read.Call.TheVariants.{Choose}
use Rattle.transcript.proofs.NotCall.{not_call}
use Rattle.narration.specs.Telling.{put_cases}
use borrow.Author.Rules.{rules}
use Rattle.narration.proofs.put_explanation.Goals as goal

-- the other variants are no choose
not_choose : (c : Call) → OneOf (0 ∷ 2 ∷ 3 ∷ []) (tag_of call_type c) → c ≡ Choose → ⊥
not_choose c h e = miss (0 ∷ 2 ∷ 3 ∷ []) 1 tt (rw e at h)

pub returns-in_default : goal.returns-in_default
returns-in_default c = search (rules, put_cases, not_call)

pub returns-in_default-c : goal.returns-in_default-c
returns-in_default-c c = search (rules, put_cases, not_choose)

pub returns-then-s-gt0 : goal.returns-then-s-gt0
returns-then-s-gt0 c = search (rules, put_cases)

pub returns : goal.returns
returns c = search (rules, put_cases)
