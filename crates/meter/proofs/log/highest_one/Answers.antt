use Rattle.std.proofs.Common.{arith}
use Rattle.meter.specs.Power.{zeros_few, highest_is}
use Rattle.meter.proofs.log.highest_one.Goals as goal

pub returns : goal.returns
returns c =
    highest_is c.args.x c.requires c.ranges.x _ (omega (arith, zeros_few c.args.x c.requires c.ranges.x))
