use Rattle.std.proofs.Common.{◌≡◌, ◌≤◌, ◌+◌, ◌*◌, ◌^◌, ◌*ℤ◌}
use Rattle.std.specs.Prelude.{unsigned_abs}
use Rattle.std.specs.Int.{int_shr}
use Rattle.fixed_arith.specs.Sums.{sum_below}
use Rattle.fixed_arith.specs.Signal.{at}
use Rattle.rpe_ltp.proofs.grid.power.Given as goal

abbrev pub invariant-loop-i : goal.invariant-loop-i
invariant-loop-i l = record {
  value : l.sum ≡ sum_below (λ i. int_shr (at l.x (l.m + 3 * i)) 2 *ℤ int_shr (at l.x (l.m + 3 * i)) 2) l.i;
  small : unsigned_abs l.sum ≤ l.i * 2 ^ 26;
}
