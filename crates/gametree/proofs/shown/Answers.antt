use Rattle.gametree.specs.Entry.{numbers_of}
use borrow.Author.Rules.{rules}
use Rattle.gametree.proofs.shown.Goals as goal

pub returns-in-Ok-Forced : goal.returns-in-Ok-Forced
unfolding numbers_of
returns-in-Ok-Forced c = search rules

pub returns-in-Ok-Held : goal.returns-in-Ok-Held
unfolding numbers_of
returns-in-Ok-Held c = search rules

pub returns-in-Err-BrokenRules : goal.returns-in-Err-BrokenRules
unfolding numbers_of
returns-in-Err-BrokenRules c = search rules
