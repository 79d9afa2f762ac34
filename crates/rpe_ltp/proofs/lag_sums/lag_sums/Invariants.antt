use Rattle.std.proofs.Common.{◌≡◌, ℕ, ◌<◌, ◌+◌, ◌*◌, length}
use Rattle.fixed_arith.specs.Signal.{at}
use Rattle.rpe_ltp.specs.LagSearch.{sum_by_place}
use Rattle.rpe_ltp.proofs.lag_sums.lag_sums.Given as goal

abbrev pub invariant-loop-group : goal.invariant-loop-group
invariant-loop-group l = record {
  size : length l.sums ≡ 81;
  done : (m : ℕ) → m < 1 + 8 * l.group → at l.sums m ≡ sum_by_place l.ws l.kept m;
}

abbrev pub invariant-loop-j : goal.invariant-loop-j
invariant-loop-j l = record {
  size : length l.sums ≡ 81;
  done : (m : ℕ) → m < 1 + 8 * l.group + l.j → at l.sums m ≡ sum_by_place l.ws l.kept m;
}
