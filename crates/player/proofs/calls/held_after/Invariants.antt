use Rattle.std.proofs.Common.{◌≡◌, ◌≤◌, ◌+◌, take}
use Rattle.player.specs.Beats.{held_after}
use Rattle.player.proofs.calls.held_after.Given as goal

abbrev pub invariant-loop-call : goal.invariant-loop-call
invariant-loop-call l = (l.now ≡ held_after l.fn.held (take l.call-index l.call-items)) × (l.now ≤ l.fn.held + l.call-index)
