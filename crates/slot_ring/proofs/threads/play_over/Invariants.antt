use Rattle.std.proofs.Common.{◌≡◌, ◌≤◌, ◌-◌, ◌+◌}
use Rattle.slot_ring.specs.Seen.{position_in}
use Rattle.slot_ring.proofs.threads.play_over.Given as goal

abbrev pub invariant-loop-made : goal.invariant-loop-made
invariant-loop-made g l = (l.pass.ring ≡ l.fn.ring) × (l.pass.who ≡ l.fn.pass.who) × (position_in l.pass ≤ 4294967296 + l.made) × (l.made ≤ 960)

abbrev pub decreases-loop-made : goal.decreases-loop-made
decreases-loop-made g l = 960 - l.made
