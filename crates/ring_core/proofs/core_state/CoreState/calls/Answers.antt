use Rattle.std.proofs.Common.{◌≡◌, ℕ, List, inl, inr, refl, sym, ap, ◌∙◌, subst, arith}
use native.Mathlib.Decide.{ℕ_discrete}
use mathlib.Core.Option.{some}
use lib.ListN.{get_elem?}
use Rattle.ring_core.specs.declared.views.View.{View}
use Rattle.ring_core.specs.CoreState.{HasList}
use Rattle.ring_core.specs.ListPlaces.{at_one}
use Rattle.ring_core.proofs.Elements.{at_index}
use Rattle.ring_core.proofs.Seats.{at_below}
use Rattle.ring_core.proofs.core_state.CoreState.calls.Goals as goal

pub returns-in-Some : goal.returns-in-Some
returns-in-Some c =
    let at : get_elem? c.deref-view-items.result.now c.loop-view.view-index ≡ some c.view-item.result = at_index c.deref-view-items.result.now c.loop-view.view-index c.view-item.result c.loop-view-test.true c.view-item.is in
    rw (← c.self.view_is) (inl (c.loop-view.view-index, (c.view-item.result, ap (λ (l : List View). get_elem? l c.loop-view.view-index) (sym c.deref-view-items.ensures.value) ∙ at, c.in-Some.ensures)))

pub loop-view-preserved : goal.loop-view-preserved
loop-view-preserved c = λ seat v list below there has.
    elim (ℕ_discrete seat c.loop-view.view-index) [
      | yes here ↦
          let at : get_elem? c.deref-view-items.result.now c.loop-view.view-index ≡ some c.view-item.result = at_index c.deref-view-items.result.now c.loop-view.view-index c.view-item.result c.loop-view-test.true c.view-item.is in
          let same : v ≡ c.view-item.result = at_one c.deref-view-items.result.now c.loop-view.view-index v c.view-item.result (subst (λ (i : ℕ). get_elem? c.deref-view-items.result.now i ≡ some v) here there) at in
          c.in-None.ensures list (subst (λ (x : View). HasList c.args.who list x.role) same has)
      | no other ↦ c.loop-view.invariant seat v list (omega arith) there has
    ]

pub returns : goal.returns
returns c =
    rw (← c.self.view_is) (inr (
      refl,
      λ seat v list there has.
          let found : get_elem? c.deref-view-items.result.now seat ≡ some v = ap (λ (l : List View). get_elem? l seat) c.deref-view-items.ensures.value ∙ there in
          let below = at_below c.deref-view-items.result.now seat v found in
          c.loop-view.invariant seat v list (omega (arith, below, c.loop-view-test.false)) found has,
    ))
