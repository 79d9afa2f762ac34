use Rattle.std.proofs.Common.{length}
use Rattle.red_payload.proofs.Unsigned.{IsUnsignedSo}
use Rattle.red_payload.proofs.judging.first_unsigned_in.Given as goal

abbrev pub invariant-loop-block : goal.invariant-loop-block
invariant-loop-block l = IsUnsignedSo l.fn.walk l.walk l.before

abbrev pub decreases-loop-block : goal.decreases-loop-block
decreases-loop-block l = length l.walk
