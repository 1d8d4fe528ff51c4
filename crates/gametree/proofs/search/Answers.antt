use borrow.Author.Rules.{rules}
use Rattle.gametree.specs.Entry.{playable_playing, search_cases}
use Rattle.gametree.specs.Theorems.{answer_is}
use Rattle.gametree.proofs.search.Goals as goal

pub forced-requires : goal.forced-requires
forced-requires c = (search (rules, playable_playing), search rules)

pub returns-then-forced : goal.returns-then-forced
returns-then-forced c = answer_is _ _ _ (search (rules, search_cases))

pub returns-then-playable : goal.returns-then-playable
returns-then-playable c = answer_is _ _ _ (search (rules, search_cases))

pub returns : goal.returns
returns c = answer_is _ _ _ (search (rules, search_cases))
