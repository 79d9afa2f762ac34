use Rattle.std.proofs.Common.{◌≡◌, ℕ, ◌^◌, sym, ap, ◌∙◌, subst}
use Rattle.ring_core.specs.declared.views.Shape.{Shape}
use Rattle.ring_core.specs.Steps.{pool_view}
use Rattle.ring_core.specs.Ring.{slot_count}
use Rattle.step_table.specs.Packed.{Where, SeatState}
use Rattle.step_table.specs.Ends.{ClosedView, Ends}
use Rattle.slot_ring.specs.Seen.{GatherView, lists_in}
use Rattle.slot_ring.specs.Remains.{Ended, frames_left}
use Rattle.slot_ring.proofs.LeftFrames.{ended}
use Rattle.slot_ring.proofs.ring.SlotRing.close.Goals as goal

pub returns-clause-history : goal.returns-clause-history
returns-clause-history c =
    let me = c.gather.inside.seat.me in
    let k : Shape = c.args.self.shape in
    let p = c.gather.invariant.0 in
    let closed : ClosedView = c.close-closed.result in
    let inside : c.self.inside.table.shape ≡ k = ap (λ (w : Where). w.shape) c.self.view_is in
    let shape : me.0.shape ≡ k = ap (λ (b : GatherView). b.ring.shape) c.gather.view_is ∙ ap (λ (w : Where). w.shape) c.requires.ring in
    let is : me.0 ≡ pool_view k p = ap (λ (m : SeatState). m.0) c.gather.invariant.1 ∙ ap (λ (x : Shape). pool_view x p) shape in
    let lists : p.lists ≡ c.args.gather.lists = ap (λ (m : SeatState). lists_in m.0.role) (sym c.gather.invariant.1) ∙ ap (λ (b : GatherView). b.lists) c.gather.view_is in
    let e = ended c.gathered_are_the_calls.ensures k closed p c.args.gather.lists (subst (λ (x : Shape). Ends x closed) inside c.close-closed.ensures.ends) (c.close-closed.ensures.view ∙ is) lists c.requires.all in
    let count : slot_count k ≡ c.slots_in-slots.result = ap (λ (x : Shape). 2 ^ x.g) (sym inside) ∙ (ap (λ (n : ℕ). 2 ^ n) c.self.invariant.0 ∙ sym c.slots_in-slots.ensures.value) in
    let frames : c.collect.new.frames.items ≡ frames_left (slot_count k) closed.words closed.cells = c.collect.ensures ∙ ap (λ (r : ℕ). frames_left r closed.words closed.cells) (sym count) in
    subst (Ended k c.args.gather.lists) (sym frames) e
