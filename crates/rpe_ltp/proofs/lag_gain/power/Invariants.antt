use Rattle.std.proofs.Common.{◌≡◌, ◌+◌, ◌-◌, ◌*ℤ◌}
use Rattle.std.specs.Int.{int_shr}
use Rattle.fixed_arith.specs.Sums.{sum_below}
use Rattle.fixed_arith.specs.Signal.{at}
use Rattle.rpe_ltp.proofs.lag_gain.power.Given as goal

abbrev pub invariant-loop-k : goal.invariant-loop-k
invariant-loop-k l = l.sum ≡ sum_below (λ k. int_shr (at l.kept (120 - l.lag + k)) 3 *ℤ int_shr (at l.kept (120 - l.lag + k)) 3) l.k
