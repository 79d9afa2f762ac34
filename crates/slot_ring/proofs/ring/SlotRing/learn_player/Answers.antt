use Rattle.slot_ring.proofs.Callers.{player_learns}
use Rattle.slot_ring.proofs.ring.SlotRing.learn_player.Goals as goal

pub invariant_of-pass : goal.invariant_of-pass
invariant_of-pass g c = (player_learns c.pass.inside.seat.me c.note.inside.seat.me c.join.new.into.me c.pass.inside.spare c.pass.inside.position c.pass.invariant c.note.invariant c.join.ensures.seat.2).0
