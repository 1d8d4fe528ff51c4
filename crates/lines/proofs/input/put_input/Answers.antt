use borrow.Author.Rules.{rules}
use Rattle.lines.specs.Input.{input_line, line_written}
use Rattle.lines.proofs.input.put_input.Goals as goal

pub returns-in-Row : goal.returns-in-Row
unfolding input_line
returns-in-Row c = search (rules, line_written)

pub returns-in-Word : goal.returns-in-Word
unfolding input_line
returns-in-Word c = search (rules, line_written)

pub returns-in-Call : goal.returns-in-Call
unfolding input_line
returns-in-Call c = search (rules, line_written)

pub returns-in-Empty : goal.returns-in-Empty
unfolding input_line
returns-in-Empty c = search (rules, line_written)

pub returns-in-Unreadable : goal.returns-in-Unreadable
unfolding input_line
returns-in-Unreadable c = search (rules, line_written)
