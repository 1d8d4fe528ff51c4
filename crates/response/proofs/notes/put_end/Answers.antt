use Rattle.response.specs.Note.{end_cases}
use borrow.Author.Rules.{rules}
use Rattle.response.proofs.notes.put_end.Goals as goal

pub offset_bounds-s-i : goal.offset_bounds-s-i
offset_bounds-s-i c = search (rules, end_cases)

pub bounds-s-i : goal.bounds-s-i
bounds-s-i c = search (rules, end_cases)

pub offset_bounds-counts-i : goal.offset_bounds-counts-i
offset_bounds-counts-i c = search (rules, end_cases)

pub bounds-counts-i : goal.bounds-counts-i
bounds-counts-i c = search (rules, end_cases)

pub put_job-requires : goal.put_job-requires
put_job-requires c = search (rules, end_cases)

pub returns-then-over : goal.returns-then-over
returns-then-over c = search (rules, end_cases)

pub returns : goal.returns
returns c = search (rules, end_cases)
