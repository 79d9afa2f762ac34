use Rattle.std.proofs.Common.{◌≡◌, ◌++◌, ◌-◌, ◌≤◌, map}
use Rattle.ring_core.specs.Opening.{berths_from}
use Rattle.step_table.specs.Packed.{pack_berth}
use Rattle.slot_ring.proofs.opening.push_berths.Given as goal

abbrev pub invariant-loop-i : goal.invariant-loop-i
invariant-loop-i l = (l.words.items ≡ l.fn.words.items ++ map pack_berth (berths_from l.fn.first l.i)) × (l.i ≤ l.fn.count)

abbrev pub decreases-loop-i : goal.decreases-loop-i
decreases-loop-i l = l.fn.count - l.i
