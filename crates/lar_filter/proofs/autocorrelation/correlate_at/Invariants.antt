use Rattle.std.proofs.Common.{◌≡◌, ◌+◌, ◌*ℤ◌}
use Rattle.fixed_arith.specs.Sums.{sum_below}
use Rattle.fixed_arith.specs.Signal.{at}
use Rattle.lar_filter.proofs.autocorrelation.correlate_at.Given as goal

abbrev pub invariant-loop-i : goal.invariant-loop-i
invariant-loop-i l = l.sum ≡ sum_below (λ i. at l.xs (i + l.k) *ℤ at l.xs i) l.i
