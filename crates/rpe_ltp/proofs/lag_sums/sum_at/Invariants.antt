use Rattle.std.proofs.Common.{◌≡◌, ◌+◌, ◌*ℤ◌}
use Rattle.fixed_arith.specs.Sums.{sum_below}
use Rattle.fixed_arith.specs.Signal.{at}
use Rattle.rpe_ltp.proofs.lag_sums.sum_at.Given as goal

abbrev pub invariant-loop-k : goal.invariant-loop-k
invariant-loop-k l = l.sum ≡ sum_below (λ k. at l.ws k *ℤ at l.kept (l.i + k)) l.k
