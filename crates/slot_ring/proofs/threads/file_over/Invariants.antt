use Rattle.std.proofs.Common.{◌≡◌, ◌≤◌, ◌-◌}
use Rattle.slot_ring.proofs.threads.file_over.Given as goal

abbrev pub invariant-loop-i : goal.invariant-loop-i
invariant-loop-i g l = (l.pass.ring ≡ l.fn.ring) × (l.pass.who ≡ l.fn.pass.who) × (l.i ≤ 4800)

abbrev pub decreases-loop-i : goal.decreases-loop-i
decreases-loop-i g l = 4800 - l.i
