use Rattle.std.proofs.Common.{arith, ◌≤◌}
use Rattle.std.proofs.lemmas.Int.{ints}
use Rattle.lar_filter.proofs.ScaleLaws.{correlation_le_first, first_sign}
use Rattle.lar_filter.proofs.autocorrelation.autocorrelate.Goals as goal

pub returns-clause-first : goal.returns-clause-first
returns-clause-first c = λ k most.
    let none : 0 ≤ 8 = omega arith in
    let bound = correlation_le_first c.scale_down-scale.new.samples k most in
    let sign = first_sign c.scale_down-scale.new.samples in
    rw (c.correlate-sums.ensures.values k most, c.correlate-sums.ensures.values 0 none) (omega (arith, ints, bound, sign))
