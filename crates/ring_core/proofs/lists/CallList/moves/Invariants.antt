use Rattle.std.proofs.Common.{◌≡◌, ◌≤◌, take}
use Rattle.playout.specs.History.{moves}
use Rattle.ring_core.proofs.lists.CallList.moves.Given as goal

abbrev pub invariant-loop-call : goal.invariant-loop-call
invariant-loop-call l = (l.count ≡ moves (take l.call-index l.call-items)) × (l.count ≤ l.call-index)
