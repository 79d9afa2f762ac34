use Rattle.std.proofs.Common.{◌≡◌, ℕ, ◌<◌, length}
use Rattle.fixed_arith.specs.Signal.{at}
use Rattle.lar_filter.specs.Coefficients.{coefficient_of}
use Rattle.lar_filter.proofs.coefficients.reflection_of.Given as goal

abbrev pub invariant-loop-i : goal.invariant-loop-i
invariant-loop-i l = record {
  size : length l.coefficients ≡ 8;
  done : (j : ℕ) → j < l.i → at l.coefficients j ≡ coefficient_of (at l.lar j);
}
