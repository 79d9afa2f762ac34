use Rattle.std.proofs.Common.{◌≡◌, ◌+◌, ◌*◌, ◌-◌, ◌≤◌, ◌++◌}
use Rattle.std.specs.Prelude.{vec_capacity, vec_len}
use Rattle.slot_ring.specs.Remains.{read_at, pairs_from, frames_left}
use Rattle.slot_ring.proofs.left.collect.Given as goal

abbrev pub invariant-loop-i : goal.invariant-loop-i
invariant-loop-i l =
    (l.frames.items ++ pairs_from (read_at l.fn.slots l.fn.closed.words l.fn.closed.cells) (l.first + l.i) (2 * l.fn.slots - l.i) ≡ frames_left l.fn.slots l.fn.closed.words l.fn.closed.cells)
    × (l.i ≤ 2 * l.fn.slots) × (vec_len l.frames ≤ l.i) × (2 * l.fn.slots ≤ vec_capacity l.frames)

abbrev pub decreases-loop-i : goal.decreases-loop-i
decreases-loop-i l = 2 * l.fn.slots - l.i
