use Rattle.std.proofs.Common.{length, ◌≡◌}
use borrow.Author.Rules.{rules}
use Rattle.calls.specs.Code.{finish_cases, ending_of}
use Rattle.calls.proofs.finish.finish_by.Goals as goal

pub returns-then-span-eq0 : goal.returns-then-span-eq0
returns-then-span-eq0 c = search (rules, finish_cases)

pub returns-then-c-eq-IDLE : goal.returns-then-c-eq-IDLE
returns-then-c-eq-IDLE c = search (rules, finish_cases)

pub finished-requires : goal.finished-requires
finished-requires c = let e : length c.args.s.words ≡ 48 = search rules in search (rules, ending_of)

pub returns : goal.returns
returns c = search (rules, finish_cases)
