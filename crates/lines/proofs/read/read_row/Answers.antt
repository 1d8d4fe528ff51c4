use Rattle.std.specs.Prelude.{◌+◌, ◌-◌, length, take, drop}
use Rattle.lines.specs.Parted.{tail_is}
use Rattle.lines.specs.Code.{row_three}
use Rattle.lines.proofs.read.read_row.Goals as goal

pub returns : goal.returns
returns c =
    let rest = c.args.rest.now in
    let more = take (length rest - (c.in-Some.e + 1)) (drop (c.in-Some.e + 1) rest) in
    row_three _ _ c.in-Some.ensures.first _ (tail_is rest (c.in-Some.e + 1)) _ _ _ _ _ _ c.in-Some-place.ensures.first c.read_number-a.ensures
    c.read_number-b.ensures c.read_number-c.ensures (tail_is more (c.in-Some-place.f + 1)) c.row.ensures
