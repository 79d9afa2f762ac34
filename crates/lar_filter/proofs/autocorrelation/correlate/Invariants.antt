use Rattle.std.proofs.Common.{pos}
use Rattle.fixed_arith.specs.ArrayLaws.{Fills}
use Rattle.lar_filter.specs.Autocorrelation.{correlation}
use Rattle.lar_filter.proofs.autocorrelation.correlate.Given as goal

abbrev pub invariant-loop-k : goal.invariant-loop-k
invariant-loop-k l = Fills (pos 0) (correlation l.xs) 9 l.sums l.k
