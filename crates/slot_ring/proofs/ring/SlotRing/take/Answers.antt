use Rattle.std.proofs.Common.{◌∙◌}
use Rattle.slot_ring.proofs.Players.{after_take}
use Rattle.slot_ring.proofs.ring.SlotRing.take.Goals as goal

pub invariant_of-pass : goal.invariant_of-pass
invariant_of-pass g c =
    (after_take g.A.Kind.kind c.pass.inside.seat.table_id _ c.pass.inside.seat.me c.swap-found.new.seat.me c.cell-kept.new.seat.me c.args.pass.now c.pass.inside.spare c.pass.inside.position c.swap-found.result c.cell_of-cell.result c.cell-kept.result c.item_from-item.result c.is_filled.result
    c.requires.kind c.pass.invariant c.swap-found.ensures.told c.cell_of-cell.ensures.slot c.is_filled.ensures c.cell-kept.ensures.old c.item_from-item.ensures c.cell-kept.ensures.new (c.cell-kept.ensures.seat.0 ∙ c.swap-found.ensures.seat.0) c.pass.view_is).0

pub returns-clause-taken : goal.returns-clause-taken
returns-clause-taken g c =
    (after_take g.A.Kind.kind c.pass.inside.seat.table_id _ c.pass.inside.seat.me c.swap-found.new.seat.me c.cell-kept.new.seat.me c.args.pass.now c.pass.inside.spare c.pass.inside.position c.swap-found.result c.cell_of-cell.result c.cell-kept.result c.item_from-item.result c.is_filled.result
    c.requires.kind c.pass.invariant c.swap-found.ensures.told c.cell_of-cell.ensures.slot c.is_filled.ensures c.cell-kept.ensures.old c.item_from-item.ensures c.cell-kept.ensures.new (c.cell-kept.ensures.seat.0 ∙ c.swap-found.ensures.seat.0) c.pass.view_is).1
