use borrow.Author.Rules.{rules}
use Rattle.std.proofs.Common.{◌-◌}
use Rattle.table.specs.Settle.{part_laws, part_found}
use Rattle.table.proofs.settle.part_of.Goals as goal

pub nonzero_div-q : goal.nonzero_div-q
nonzero_div-q c = search (rules, part_laws)

pub requested-requires : goal.requested-requires
requested-requires c = search (rules, part_laws)

pub returns-then-requested-q : goal.returns-then-requested-q
returns-then-requested-q c =
    part_found _ _ (c.loop-m.m - 1) (search rules) c.requested.result (search rules) (search rules) (search rules) (search rules) (search rules)

pub returns : goal.returns
returns c = search (rules, part_laws)
