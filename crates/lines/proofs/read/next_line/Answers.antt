use Rattle.lines.specs.Parted.{tail_is}
use Rattle.lines.specs.Lines.{took_left, took_line}
use Rattle.lines.proofs.read.next_line.Goals as goal

pub returns-in_default : goal.returns-in_default
returns-in_default c = took_left _ _ _ c.requires (tail_is c.args.text.now c.args.at) c.in_default.ensures.first

pub returns : goal.returns
returns c = took_line _ _ _ c.requires (tail_is c.args.text.now c.args.at) _ _ c.in-Some.ensures.first c.read_line-line.ensures
