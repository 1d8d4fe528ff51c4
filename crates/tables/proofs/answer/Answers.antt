-- Rows whose opinion is neither 1 nor 2 keep their rule.
use Rattle.std.proofs.Common.{rules}
use Rattle.table.proofs.TheoremsLaws.{shown_fit}
use Rattle.tables.proofs.answer.Goals as goal

pub put_sums-requires : goal.put_sums-requires
put_sums-requires g c = search (rules, shown_fit)
