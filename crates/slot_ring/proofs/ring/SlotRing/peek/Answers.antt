use Rattle.std.proofs.Common.{◌≡◌, ◌∙◌, ◌∷◌, [], ◌++◌, ℕ, Some, refl, ap, subst}
use Rattle.playout.specs.declared.call.Call.TheVariants.{PeekCall}
use Rattle.slot_ring.specs.Seen.{PassView, PeekSays}
use Rattle.slot_ring.proofs.Grows.{grown, knows}
use Rattle.slot_ring.proofs.Players.{after_peek, position_stays}
use Rattle.slot_ring.proofs.ring.SlotRing.peek.Goals as goal

pub invariant_of-pass : goal.invariant_of-pass
invariant_of-pass g c = (after_peek c.pass.inside.seat.me c.load-found.new.seat.me c.pass.inside.spare c.pass.inside.position _ _ c.pass.invariant c.load-found.ensures.told c.value_in.ensures).players

pub returns-clause-call : goal.returns-clause-call
returns-clause-call g c =
    let me = c.pass.inside.seat.me in let now = c.load-found.new.seat.me in
    let r = after_peek me now c.pass.inside.spare c.pass.inside.position _ _ c.pass.invariant c.load-found.ensures.told c.value_in.ensures in
    grown c.pass.inside.seat.table_id _ me now c.args.pass.now (PeekCall c.value_in.result) r.went c.load-found.ensures.seat.0 c.pass.view_is

pub returns-clause-known : goal.returns-clause-known
returns-clause-known g c =
    let me = c.pass.inside.seat.me in let now = c.load-found.new.seat.me in
    let r = after_peek me now c.pass.inside.spare c.pass.inside.position _ _ c.pass.invariant c.load-found.ensures.told c.value_in.ensures in
    knows c.pass.inside.seat.table_id me now c.args.pass.now (PeekCall c.value_in.result) r.went c.pass.view_is

pub returns-clause-position : goal.returns-clause-position
returns-clause-position g c =
    let me = c.pass.inside.seat.me in let now = c.load-found.new.seat.me in
    let r = after_peek me now c.pass.inside.spare c.pass.inside.position _ _ c.pass.invariant c.load-found.ensures.told c.value_in.ensures in
    position_stays c.args.pass.now.list _ (PeekCall c.value_in.result) refl (r.went.list ∙ ap (λ (p : PassView). p.list ++ PeekCall c.value_in.result ∷ []) c.pass.view_is)

pub returns-clause-fresh : goal.returns-clause-fresh
returns-clause-fresh g c =
    let me = c.pass.inside.seat.me in let now = c.load-found.new.seat.me in
    let r = after_peek me now c.pass.inside.spare c.pass.inside.position _ _ c.pass.invariant c.load-found.ensures.told c.value_in.ensures in
    subst (λ (p : PassView). (x : ℕ) → p.known.base ≡ Some x → c.value_in.result ≡ Some x) c.pass.view_is r.fresh

pub returns-clause-word : goal.returns-clause-word
returns-clause-word g c =
    let me = c.pass.inside.seat.me in let now = c.load-found.new.seat.me in
    let r = after_peek me now c.pass.inside.spare c.pass.inside.position _ _ c.pass.invariant c.load-found.ensures.told c.value_in.ensures in
    subst (λ (p : PassView). PeekSays p.known.base c.value_in.result) c.pass.view_is r.word
