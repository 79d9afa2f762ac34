use Rattle.slot_ring.proofs.Callers.{filer_learns}
use Rattle.slot_ring.proofs.ring.SlotRing.learn_filer.Goals as goal

pub invariant_of-pass : goal.invariant_of-pass
invariant_of-pass g c = (filer_learns c.pass.inside.seat.me c.note.inside.seat.me c.join.new.into.me c.pass.inside.who c.pass.inside.spare c.pass.invariant c.note.invariant c.join.ensures.seat.2).0
