use Rattle.std.proofs.Common.{◌≡◌, ◌+◌, ◌*ℤ◌}
use Rattle.fixed_arith.specs.Sums.{sum_below}
use Rattle.fixed_arith.specs.Signal.{at}
use Rattle.rpe_ltp.specs.Weighting.{response}
use Rattle.rpe_ltp.proofs.weighting.weigh.Given as goal

abbrev pub invariant-loop-i : goal.invariant-loop-i
invariant-loop-i l = l.sum ≡ sum_below (λ i. at response i *ℤ at l.wide (l.k + i)) l.i
