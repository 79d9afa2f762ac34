use Rattle.std.proofs.Common.{◌≡◌, ◌<◌, sym, ap, ◌∙◌, subst}
use Rattle.ring_core.specs.declared.views.Shape.{Shape}
use Rattle.step_table.specs.Packed.{Where}
use Rattle.slot_ring.specs.Seen.{BlankView}
use Rattle.slot_ring.proofs.Pools.{enlisted, filer_enlisted}
use Rattle.slot_ring.proofs.ring.SlotRing.enlist_filer_as.Goals as goal

pub invariant_of-result : goal.invariant_of-result
invariant_of-result g c =
    let me = c.blank.inside.seat.me in
    let shape : me.0.shape ≡ c.args.self.now.shape = ap (λ (b : BlankView). b.ring.shape) c.blank.view_is ∙ ap (λ (w : Where). w.shape) c.requires.ring in
    let e = enlisted g.A.Kind.kind c.args.k me c.swap-found.new.seat.me c.swap-found.result c.fresh_cell-spare.result c.requires.kind c.swap-found.ensures.told c.fresh_cell-spare.ensures in
    filer_enlisted me c.swap-found.new.seat.me c.args.k c.fresh_cell-spare.result e (subst (λ (x : Shape). c.args.k < x.filers) (sym shape) c.requires.filer)
