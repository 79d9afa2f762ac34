use Rattle.std.proofs.Common.{◌≤◌, ◌-◌}
use Rattle.fixed_arith.specs.Signal.{at}
use Rattle.rpe_ltp.specs.LagSearch.{IsFirstGreatest}
use Rattle.rpe_ltp.proofs.lag_search.first_greatest.Given as goal

abbrev pub invariant-loop-l : goal.invariant-loop-l
invariant-loop-l l = record {
  scan : IsFirstGreatest (λ l'. at l.sums (120 - l')) l.l l.lag l.best;
  within : l.lag ≤ l.l;
}
