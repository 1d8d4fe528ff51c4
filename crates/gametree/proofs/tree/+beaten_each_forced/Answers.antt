use borrow.Author.Rules.{rules}
use Rattle.gametree.specs.Code.{loss_cases, each_cases, round_cases}
use Rattle.gametree.proofs.tree.+beaten_each_forced.Goals as goal

pub beaten-returns : goal.beaten-returns
beaten-returns t c = search (rules, loss_cases)

pub each-returns-then-m-eq0 : goal.each-returns-then-m-eq0
each-returns-then-m-eq0 t c = search (rules, each_cases)

pub each-returns-then-i-h : goal.each-returns-then-i-h
each-returns-then-i-h t c = search (rules, each_cases)

pub each-returns-then-beaten : goal.each-returns-then-beaten
each-returns-then-beaten t c = search (rules, each_cases)

pub each-returns-then-may : goal.each-returns-then-may
each-returns-then-may t c = search (rules, each_cases)

pub each-returns : goal.each-returns
each-returns t c = search (rules, each_cases)

pub forced-returns-then-ticks-eq0 : goal.forced-returns-then-ticks-eq0
forced-returns-then-ticks-eq0 t c = search (rules, round_cases)

pub forced-returns-then-beaten : goal.forced-returns-then-beaten
forced-returns-then-beaten t c = search (rules, round_cases)

pub forced-returns-then-rows-eq0 : goal.forced-returns-then-rows-eq0
forced-returns-then-rows-eq0 t c = search (rules, round_cases)

pub forced-returns-then-b-j : goal.forced-returns-then-b-j
forced-returns-then-b-j t c = search (rules, round_cases)

pub forced-returns-then-forced : goal.forced-returns-then-forced
forced-returns-then-forced t c = search (rules, round_cases)

pub forced-returns : goal.forced-returns
forced-returns t c = search (rules, round_cases)
