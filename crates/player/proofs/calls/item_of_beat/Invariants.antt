use Rattle.std.proofs.Common.{◌≡◌, [], take}
use Rattle.std.specs.List.{flat_map}
use Rattle.recorder.specs.Tallies.{call_items}
use Rattle.player.proofs.calls.item_of_beat.Given as goal

abbrev pub invariant-loop-call : goal.invariant-loop-call
invariant-loop-call l = flat_map call_items (take l.call-index l.call-items) ≡ []
