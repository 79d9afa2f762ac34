use Rattle.std.proofs.Common.{length}
use Rattle.red_payload.proofs.Splitting.{IsToldSo}
use Rattle.red_payload.proofs.blocks.split.Given as goal

abbrev pub invariant-loop-left : goal.invariant-loop-left
invariant-loop-left l = IsToldSo l.payload l.left l.older l.lengths

abbrev pub decreases-loop-left : goal.decreases-loop-left
decreases-loop-left l = length l.left
