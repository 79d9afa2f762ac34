use Rattle.fixed_arith.specs.ArrayLaws.{MapsInPlace}
use Rattle.lar_filter.specs.Autocorrelation.{scaled_word}
use Rattle.lar_filter.proofs.autocorrelation.scale_down.Given as goal

abbrev pub invariant-loop-sample : goal.invariant-loop-sample
invariant-loop-sample l = MapsInPlace (scaled_word l.scale) l.fn.samples l.samples l.sample-index
