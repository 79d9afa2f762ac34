use Rattle.std.proofs.Common.{ℕ, eqb, sym, ap, ◌∙◌, subst}
use prog.Atomic.{either}
use Rattle.atomic_table.specs.Table.{Allows}
use Rattle.ring_core.specs.declared.views.Shape.{Shape}
use Rattle.ring_core.specs.RingLaws.{AllStepsKeepTheRule, CallersAreFresh, SlotsAreNear}
use Rattle.step_table.specs.Packed.{Where, SeatState, Holds}
use Rattle.step_table.specs.Kinds.{StepKind, publish, source, base, MayExchange, told}
use Rattle.step_table.proofs.Filing.{publish_allowed}
use Rattle.step_table.proofs.Holding.{source_allowed, base_allowed}
use Rattle.step_table.proofs.Laid.{exchange_within}
use Rattle.step_table.proofs.table.StepTable.compare_exchange.Goals as goal

allowed : AllStepsKeepTheRule → CallersAreFresh → SlotsAreNear → (m : StepKind) (k : Shape) (slots id : ℕ) (me : SeatState) (word old new : ℕ) → MayExchange m k me word old new → Allows (Holds k) slots id me word (λ x. either (eqb x old) new x) (told m me)
allowed steps fresh near publish k slots id me word old new may = publish_allowed steps fresh near k slots id me word old new may
allowed steps fresh near (source x) k slots id me word old new may = source_allowed steps fresh k slots id me word old new x may
allowed steps fresh near (base x) k slots id me word old new may = base_allowed steps fresh k slots id me word old new x may
allowed steps fresh near _ k slots id me word old new may = absurd may

pub compare_exchange-found-requires : goal.compare_exchange-found-requires
compare_exchange-found-requires g c =
    let is = c.self.view_is in
    let may = subst (λ (z : Where). MayExchange g.M.Kind.kind z.shape c.args.seat.now.me c.args.word c.args.old c.args.new) (sym is) c.requires.kind in
    (c.requires.seat ∙ sym (ap (λ (z : Where). z.id) is), exchange_within g.M.Kind.kind _ _ _ _ _ _ c.self.invariant.0 may, allowed c.steps_keep_the_rule.ensures c.callers_are_fresh.ensures c.slots_are_near.ensures g.M.Kind.kind _ _ _ _ _ _ _ may)
