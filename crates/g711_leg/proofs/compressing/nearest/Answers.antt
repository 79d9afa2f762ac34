use Rattle.std.proofs.Common.{arith}
use Rattle.g711_leg.proofs.LevelLaws.{nearest_below}
use Rattle.g711_leg.proofs.compressing.nearest.Goals as goal

pub returns-then-size-magnitude : goal.returns-then-size-magnitude
returns-then-size-magnitude c =
    nearest_below c.args.law c.args.size c.level_about-above.result c.level_about-above.ensures (omega arith) (omega arith)
