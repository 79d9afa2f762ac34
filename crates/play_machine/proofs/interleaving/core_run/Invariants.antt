use Rattle.std.proofs.Common.{◌≡◌, take}
use Rattle.ring_core.specs.Opening.{opening_ring}
use Rattle.ring_core.specs.Core.{run}
use Rattle.play_machine.proofs.interleaving.core_run.Given as goal

abbrev pub invariant-loop-event : goal.invariant-loop-event
invariant-loop-event l = l.state ≡ run l.shape (opening_ring l.shape) (take l.event-index l.event-items)
