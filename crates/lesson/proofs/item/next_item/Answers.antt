use Rattle.lines.specs.Parted.{tail_is}
use Rattle.lesson.specs.Read.{took_left, took_line}
use Rattle.lesson.proofs.item.next_item.Goals as goal

pub returns-in_default : goal.returns-in_default
returns-in_default c = took_left _ _ _ c.requires (tail_is c.args.text.now c.args.at) c.in_default.ensures.first

pub returns : goal.returns
returns c = took_line _ _ _ c.requires (tail_is c.args.text.now c.args.at) _ _ c.in-Some.ensures.first c.read_item-item.ensures
