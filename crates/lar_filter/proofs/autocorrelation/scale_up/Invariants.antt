use Rattle.fixed_arith.specs.Word.{shift_word_left}
use Rattle.fixed_arith.specs.ArrayLaws.{MapsInPlace}
use Rattle.lar_filter.proofs.autocorrelation.scale_up.Given as goal

abbrev pub invariant-loop-sample : goal.invariant-loop-sample
invariant-loop-sample l = MapsInPlace (λ x. shift_word_left x l.scale) l.fn.samples l.samples l.sample-index
