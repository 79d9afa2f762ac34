use Rattle.std.proofs.Common.{◌≡◌, ℕ, ◌<◌, ◌+◌, ◌*ℤ◌, pos, length, get_or, map, to_z, w32}
use Rattle.fixed_arith.specs.Sums.{sum_below}
use Rattle.fixed_arith.specs.Signal.{at}
use Rattle.rpe_ltp.proofs.lag_sums.eight_sums.Given as goal

abbrev pub invariant-loop-k : goal.invariant-loop-k
invariant-loop-k l = record {
  lanes : length l.sums ≡ 8;
  each : (j : ℕ) → j < 8 → get_or (map (to_z w32) l.sums) j (pos 0) ≡ sum_below (λ k. at l.ws k *ℤ at l.kept (l.start + j + k)) l.k;
}
