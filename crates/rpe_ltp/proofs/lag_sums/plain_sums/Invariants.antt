use Rattle.std.proofs.Common.{pos}
use Rattle.fixed_arith.specs.ArrayLaws.{Fills}
use Rattle.rpe_ltp.specs.LagSearch.{sum_by_place}
use Rattle.rpe_ltp.proofs.lag_sums.plain_sums.Given as goal

abbrev pub invariant-loop-i : goal.invariant-loop-i
invariant-loop-i l = Fills (pos 0) (sum_by_place l.ws l.kept) 81 l.sums l.i
