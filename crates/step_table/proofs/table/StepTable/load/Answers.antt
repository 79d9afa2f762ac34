use Rattle.std.proofs.Common.{ℕ, sym, ap, ◌∙◌, subst}
use Rattle.atomic_table.specs.Table.{Allows}
use Rattle.ring_core.specs.declared.views.Shape.{Shape}
use Rattle.ring_core.specs.RingLaws.{AllStepsKeepTheRule, CallersAreFresh, SlotsAreNear}
use Rattle.step_table.specs.Packed.{Where, SeatState, Holds}
use Rattle.step_table.specs.Kinds.{StepKind, load, peek, glance, MayLoad, told}
use Rattle.step_table.proofs.Filing.{load_allowed}
use Rattle.step_table.proofs.Looking.{glance_allowed}
use Rattle.step_table.proofs.Holding.{peek_allowed}
use Rattle.step_table.proofs.Laid.{load_within}
use Rattle.step_table.proofs.table.StepTable.load.Goals as goal

allowed : AllStepsKeepTheRule → CallersAreFresh → SlotsAreNear → (m : StepKind) (k : Shape) (slots id : ℕ) (me : SeatState) (word : ℕ) → MayLoad m k me word → Allows (Holds k) slots id me word (λ x. x) (told m me)
allowed steps fresh near (load n f) k slots id me word may = load_allowed steps fresh near k slots id me word n f may
allowed steps fresh near peek k slots id me word may = peek_allowed steps fresh k slots id me word may
allowed steps fresh near (glance v) k slots id me word may = glance_allowed steps fresh k slots id me word v may
allowed steps fresh near _ k slots id me word may = absurd may

pub load-requires : goal.load-requires
load-requires g c =
    let is = c.self.view_is in
    let may = subst (λ (z : Where). MayLoad g.M.Kind.kind z.shape c.args.seat.now.me c.args.word) (sym is) c.requires.kind in
    (c.requires.seat ∙ sym (ap (λ (z : Where). z.id) is), load_within g.M.Kind.kind _ _ _ _ c.self.invariant.0 may, allowed c.steps_keep_the_rule.ensures c.callers_are_fresh.ensures c.slots_are_near.ensures g.M.Kind.kind _ _ _ _ _ may)
