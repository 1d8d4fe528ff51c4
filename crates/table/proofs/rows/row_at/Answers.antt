use borrow.Author.Rules.{rules}
use Rattle.table.specs.Rows.{tasks_of, row_is}
use Rattle.table.proofs.rows.row_at.Goals as goal

pub overflow_mul-at : goal.overflow_mul-at
unfolding tasks_of
overflow_mul-at c = search rules

pub offset_bounds-words-at : goal.offset_bounds-words-at
unfolding tasks_of
offset_bounds-words-at c = search rules

pub bounds-words-at : goal.bounds-words-at
unfolding tasks_of
bounds-words-at c = search rules

pub overflow_add-at : goal.overflow_add-at
unfolding tasks_of
overflow_add-at c = search rules

pub offset_bounds-words-at-2 : goal.offset_bounds-words-at-2
unfolding tasks_of
offset_bounds-words-at-2 c = search rules

pub bounds-words-at-2 : goal.bounds-words-at-2
unfolding tasks_of
bounds-words-at-2 c = search rules

pub overflow_add-at-2 : goal.overflow_add-at-2
unfolding tasks_of
overflow_add-at-2 c = search rules

pub offset_bounds-words-at-3 : goal.offset_bounds-words-at-3
unfolding tasks_of
offset_bounds-words-at-3 c = search rules

pub bounds-words-at-3 : goal.bounds-words-at-3
unfolding tasks_of
bounds-words-at-3 c = search rules

pub returns : goal.returns
returns c = search (rules, row_is)
