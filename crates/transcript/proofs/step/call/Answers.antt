use Rattle.transcript.specs.Play.{call_cases}
use borrow.Author.Rules.{rules}
use borrow.Author.Rules.{rules}
use Rattle.transcript.proofs.step.call.Goals as goal

pub returns-in-Arrive : goal.returns-in-Arrive
returns-in-Arrive c = search (rules, call_cases)

pub returns-in-Choose : goal.returns-in-Choose
returns-in-Choose c = search (rules, call_cases)

pub returns-in-Advance : goal.returns-in-Advance
returns-in-Advance c = search (rules, call_cases)

pub returns-in-Finish : goal.returns-in-Finish
returns-in-Finish c = search (rules, call_cases)
