use Rattle.slot_ring.proofs.Pools.{gathered}
use Rattle.slot_ring.proofs.ring.SlotRing.gather.Goals as goal

pub invariant_of-gather : goal.invariant_of-gather
invariant_of-gather g c = gathered c.gather.inside.seat.me c.departed.inside.seat.me c.join.new.into.me c.gather.invariant c.departed.invariant c.join.ensures.seat.2
