use Rattle.std.proofs.Common.{◌≡◌, ◌+◌, length}
use Rattle.red_payload.specs.Blocks.{first_broken}
use Rattle.red_payload.proofs.judging.first_broken.Given as goal

abbrev pub invariant-loop-block : goal.invariant-loop-block
invariant-loop-block l = (first_broken 0 l.fn.walk ≡ first_broken l.place l.walk) × (l.place + length l.walk ≡ l.count)

abbrev pub decreases-loop-block : goal.decreases-loop-block
decreases-loop-block l = length l.walk
