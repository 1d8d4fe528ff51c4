use Rattle.lesson.specs.Put.{answer_cases}
use borrow.Author.Rules.{rules}
use Rattle.lesson.proofs.releases.put_answer.Goals as goal

pub first_over-requires : goal.first_over-requires
first_over-requires c = search (rules, answer_cases)

pub put_releases-requires : goal.put_releases-requires
put_releases-requires c = search (rules, answer_cases)

pub returns-in-Some : goal.returns-in-Some
returns-in-Some c = search (rules, answer_cases)

pub returns-in-None : goal.returns-in-None
returns-in-None c = search (rules, answer_cases)

pub returns-in-Held : goal.returns-in-Held
returns-in-Held c = search (rules, answer_cases)

pub returns-in-Err : goal.returns-in-Err
returns-in-Err c = search (rules, answer_cases)
