use Rattle.std.proofs.Common.{ℕ, ◌<◌, ◌≤◌, ◌^◌, pos}
use Rattle.std.specs.Prelude.{unsigned_abs}
use Rattle.fixed_arith.specs.ArrayLaws.{Fills}
use Rattle.fixed_arith.specs.Signal.{at}
use Rattle.rpe_ltp.specs.Weighting.{five_before}
use Rattle.rpe_ltp.proofs.weighting.padded.Given as goal

abbrev pub invariant-loop-k : goal.invariant-loop-k
invariant-loop-k l = record {
  filled : Fills (pos 0) (five_before l.e) 50 l.wide l.k;
  words : (j : ℕ) → j < l.k → unsigned_abs (at l.wide j) ≤ 2 ^ 15;
}
