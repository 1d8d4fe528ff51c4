use borrow.Author.Rules.{rules}
use Rattle.session.specs.Soundness.{job_cases}
use Rattle.session.proofs.sound.job_sound.Goals as goal

pub returns-then-clock-k : goal.returns-then-clock-k
returns-then-clock-k c = search (rules, job_cases)

pub returns-then-j-lt1 : goal.returns-then-j-lt1
returns-then-j-lt1 c = search (rules, job_cases)

pub returns-then-k-j : goal.returns-then-k-j
returns-then-k-j c = search (rules, job_cases)

pub returns-then-j-gt18014398509481984 : goal.returns-then-j-gt18014398509481984
returns-then-j-gt18014398509481984 c = search (rules, job_cases)

pub returns-then-j-k : goal.returns-then-j-k
returns-then-j-k c = search (rules, job_cases)

pub returns-then-clock-j : goal.returns-then-clock-j
returns-then-clock-j c = search (rules, job_cases)

pub returns-else-clock-j : goal.returns-else-clock-j
returns-else-clock-j c = search (rules, job_cases)
