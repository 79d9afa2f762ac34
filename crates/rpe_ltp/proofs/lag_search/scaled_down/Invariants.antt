use Rattle.std.proofs.Common.{ℕ, ◌<◌, ◌≤◌, ◌^◌, pos}
use Rattle.std.specs.Prelude.{unsigned_abs}
use Rattle.std.specs.Int.{int_shr}
use Rattle.fixed_arith.specs.ArrayLaws.{Fills}
use Rattle.fixed_arith.specs.Signal.{at}
use Rattle.rpe_ltp.proofs.lag_search.scaled_down.Given as goal

abbrev pub invariant-loop-i : goal.invariant-loop-i
invariant-loop-i l = record {
  filled : Fills (pos 0) (λ k. int_shr (at l.d k) l.scale) 40 l.values l.i;
  small : (j : ℕ) → j < l.i → unsigned_abs (at l.values j) ≤ 2 ^ 9;
}
