use Rattle.slot_ring.proofs.Pools.{split_left}
use Rattle.slot_ring.proofs.ring.SlotRing.split_as.Goals as goal

pub invariant_of-blank : goal.invariant_of-blank
invariant_of-blank g c = split_left g.A.Kind.kind c.args.k c.blank.inside.seat.me c.split-seat.new.seat.me c.requires.kind c.blank.invariant c.split-seat.ensures.seat.2
