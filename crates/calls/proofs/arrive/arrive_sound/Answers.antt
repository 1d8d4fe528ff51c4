use Rattle.std.proofs.Common.{length, ◌≡◌}
use borrow.Author.Rules.{rules}
use Rattle.calls.specs.Code.{mark_alike}
use Rattle.calls.proofs.arrive.arrive_sound.Goals as goal

pub arrive_by-requires : goal.arrive_by-requires
arrive_by-requires c = let e : length c.args.s.words ≡ 48 = search rules in search (rules, mark_alike)
