use Rattle.rpe_ltp.proofs.PulseLaws.{Spreads}
use Rattle.rpe_ltp.proofs.pulses.spread.Given as goal

abbrev pub invariant-loop-i : goal.invariant-loop-i
invariant-loop-i l = Spreads l.grid l.pulses l.places l.i
