use Rattle.host.specs.Sound.{number_is}
use borrow.Author.Rules.{rules}
use Rattle.host.proofs.shuffle_is_sound.Goals as goal

pub returns : goal.returns
returns c = search (rules, number_is)
