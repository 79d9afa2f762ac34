use Rattle.std.proofs.Common.{◌≡◌, ℕ, ◌-◌, ◌<◌, ◌≤◌, false, true}
use Rattle.std.specs.Prelude.{slice_index_or}
use Rattle.std.specs.Mem.Slots.{slots_filled, slots_len}
use Rattle.step_table.proofs.closed.Closed.drop.Given as goal

abbrev pub invariant-loop-i : goal.invariant-loop-i
invariant-loop-i l =
    ((k : ℕ) → l.i ≤ k → k < slots_len l.table.slots → slice_index_or (slots_filled l.table.slots) k false ≡ true)
    × ((k : ℕ) → k < l.i → slice_index_or (slots_filled l.table.slots) k false ≡ false)

abbrev pub decreases-loop-i : goal.decreases-loop-i
decreases-loop-i l = slots_len l.table.slots - l.i
