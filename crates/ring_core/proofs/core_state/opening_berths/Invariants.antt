use Rattle.std.proofs.Common.{◌≡◌}
use Rattle.ring_core.specs.Opening.{berths_from}
use Rattle.ring_core.proofs.core_state.opening_berths.Given as goal

abbrev pub invariant-loop-i : goal.invariant-loop-i
invariant-loop-i l = l.berths.items ≡ berths_from l.first l.i
