use Rattle.slot_ring.proofs.Players.{after_glance}
use Rattle.slot_ring.proofs.ring.SlotRing.glance.Goals as goal

pub invariant_of-pass : goal.invariant_of-pass
invariant_of-pass g c =
    (after_glance g.A.Kind.kind c.pass.inside.seat.table_id _ c.pass.inside.seat.me c.load-found.new.seat.me c.args.pass.now c.pass.inside.spare c.pass.inside.position c.load-found.result c.args.ahead c.is_filled.result
    c.requires.kind c.pass.invariant c.load-found.ensures.told c.is_filled.ensures c.load-found.ensures.seat.0 c.pass.view_is).0

pub returns-clause-glanced : goal.returns-clause-glanced
returns-clause-glanced g c =
    (after_glance g.A.Kind.kind c.pass.inside.seat.table_id _ c.pass.inside.seat.me c.load-found.new.seat.me c.args.pass.now c.pass.inside.spare c.pass.inside.position c.load-found.result c.args.ahead c.is_filled.result
    c.requires.kind c.pass.invariant c.load-found.ensures.told c.is_filled.ensures c.load-found.ensures.seat.0 c.pass.view_is).1
