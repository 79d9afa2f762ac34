use Rattle.std.proofs.Common.{◌≡◌, ℕ, ◌<◌, length}
use Rattle.fixed_arith.specs.Signal.{at}
use Rattle.lar_filter.specs.Coefficients.{between}
use Rattle.lar_filter.proofs.coefficients.interpolate.Given as goal

abbrev pub invariant-loop-i : goal.invariant-loop-i
invariant-loop-i l = record {
  size : length l.ratios ≡ 8;
  done : (j : ℕ) → j < l.i → at l.ratios j ≡ between l.part (at l.before j) (at l.now j);
}
