use Rattle.transcript.specs.Play.{word_cases}
use borrow.Author.Rules.{rules}
use borrow.Author.Rules.{rules}
use Rattle.transcript.proofs.step.queue.Goals as goal

pub returns-then-to-from-lt1024 : goal.returns-then-to-from-lt1024
returns-then-to-from-lt1024 c = search (rules, word_cases)

pub returns : goal.returns
returns c = search (rules, word_cases)
