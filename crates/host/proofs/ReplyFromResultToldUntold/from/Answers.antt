use Rattle.host.specs.Explain.{telling_cases}
use borrow.Author.Rules.{rules}
use Rattle.host.proofs.ReplyFromResultToldUntold.from.Goals as goal

pub returns-in-Ok : goal.returns-in-Ok
returns-in-Ok c = search (rules, telling_cases)

pub returns-in-Err-Unsound : goal.returns-in-Err-Unsound
returns-in-Err-Unsound c = search (rules, telling_cases)

pub returns-in-Err-InForce : goal.returns-in-Err-InForce
returns-in-Err-InForce c = search (rules, telling_cases)

pub returns-in-Err-Short : goal.returns-in-Err-Short
returns-in-Err-Short c = search (rules, telling_cases)
