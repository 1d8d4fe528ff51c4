use Rattle.std.proofs.Common.{rules}
use Rattle.workload.specs.Play.{aside_cases}
use Rattle.workload.proofs.play.aside.Goals as goal

pub returns-in-Word : goal.returns-in-Word
returns-in-Word c = search (rules, aside_cases)

pub returns-in-Call : goal.returns-in-Call
returns-in-Call c = search (rules, aside_cases)

pub returns-in-Row : goal.returns-in-Row
returns-in-Row c = search (rules, aside_cases)

pub returns-in-Empty : goal.returns-in-Empty
returns-in-Empty c = search (rules, aside_cases)

pub returns-in-Unreadable : goal.returns-in-Unreadable
returns-in-Unreadable c = search (rules, aside_cases)
