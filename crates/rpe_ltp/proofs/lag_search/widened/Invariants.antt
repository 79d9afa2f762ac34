use Rattle.std.proofs.Common.{ℕ, ◌<◌, ◌≤◌, ◌^◌, pos}
use Rattle.std.specs.Prelude.{unsigned_abs}
use Rattle.fixed_arith.specs.ArrayLaws.{Fills}
use Rattle.fixed_arith.specs.Signal.{at}
use Rattle.rpe_ltp.proofs.lag_search.widened.Given as goal

abbrev pub invariant-loop-i : goal.invariant-loop-i
invariant-loop-i l = record {
  filled : Fills (pos 0) (at l.kept) 120 l.wide l.i;
  words : (j : ℕ) → j < l.i → unsigned_abs (at l.wide j) ≤ 2 ^ 15;
}
