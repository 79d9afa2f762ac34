use Rattle.std.proofs.Common.{◌≡◌, ◌≤◌, ◌+◌, length}
use Rattle.red_payload.specs.Blocks.{speech}
use Rattle.red_payload.proofs.judging.has_many.Given as goal

abbrev pub invariant-loop-block : goal.invariant-loop-block
invariant-loop-block l = (length (speech l.fn.walk) ≡ l.octets + length (speech l.walk)) × (l.octets ≤ 330)

abbrev pub decreases-loop-block : goal.decreases-loop-block
decreases-loop-block l = length l.walk
