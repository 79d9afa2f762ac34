use Rattle.std.proofs.Common.{◌≡◌}
use Rattle.ring_core.specs.Opening.{slots_from}
use Rattle.ring_core.proofs.core_state.opening_slots.Given as goal

abbrev pub invariant-loop-i : goal.invariant-loop-i
invariant-loop-i l = l.words.items ≡ slots_from 0 l.i
