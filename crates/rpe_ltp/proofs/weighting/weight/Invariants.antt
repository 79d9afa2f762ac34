use Rattle.std.proofs.Common.{◌+◌, pos}
use Rattle.fixed_arith.specs.ArrayLaws.{Fills}
use Rattle.fixed_arith.specs.Signal.{at}
use Rattle.rpe_ltp.specs.Weighting.{weighted}
use Rattle.rpe_ltp.proofs.weighting.weight.Given as goal

abbrev pub invariant-loop-k : goal.invariant-loop-k
invariant-loop-k l = Fills (pos 0) (λ k. weighted (λ i. at l.wide (k + i))) 40 l.x l.k
