use Rattle.std.proofs.Common.{◌≡◌, take}
use Rattle.player.specs.Beats.{opened_after}
use Rattle.player.proofs.calls.opened_after.Given as goal

abbrev pub invariant-loop-call : goal.invariant-loop-call
invariant-loop-call l = l.now ≡ opened_after l.fn.opened (take l.call-index l.call-items)
