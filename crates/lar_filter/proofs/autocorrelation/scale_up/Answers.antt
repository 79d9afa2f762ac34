use Rattle.std.proofs.Common.{arith}
use Rattle.fixed_arith.specs.ArrayLaws.{MapsInPlace-whole}
use Rattle.lar_filter.proofs.autocorrelation.scale_up.Goals as goal

pub returns : goal.returns
returns c = MapsInPlace-whole _ _ _ c.loop-sample.sample-index (omega arith) c.loop-sample.invariant
