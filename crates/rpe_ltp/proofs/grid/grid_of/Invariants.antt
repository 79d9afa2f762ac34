use Rattle.std.proofs.Common.{pos, ◌+◌, ◌*◌}
use Rattle.fixed_arith.specs.ArrayLaws.{Fills}
use Rattle.fixed_arith.specs.Signal.{at}
use Rattle.rpe_ltp.proofs.grid.grid_of.Given as goal

abbrev pub invariant-loop-i : goal.invariant-loop-i
invariant-loop-i l = Fills (pos 0) (λ i. at l.x (l.grid + 3 * i)) 13 l.values l.i
