use Rattle.std.proofs.Common.{◌≡◌, ◌++◌, ◌-◌, ◌≤◌, map}
use Rattle.ring_core.specs.Opening.{slots_from}
use Rattle.step_table.specs.Packed.{pack_slot}
use Rattle.slot_ring.proofs.opening.push_slots.Given as goal

abbrev pub invariant-loop-i : goal.invariant-loop-i
invariant-loop-i l = (l.words.items ≡ l.fn.words.items ++ map pack_slot (slots_from 0 l.i)) × (l.i ≤ l.fn.count)

abbrev pub decreases-loop-i : goal.decreases-loop-i
decreases-loop-i l = l.fn.count - l.i
