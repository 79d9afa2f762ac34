use Rattle.std.proofs.Common.{ℕ, sym, ap, ◌∙◌, subst}
use Rattle.atomic_table.specs.Table.{Allows}
use Rattle.ring_core.specs.declared.views.Shape.{Shape}
use Rattle.ring_core.specs.RingLaws.{AllStepsKeepTheRule, CallersAreFresh}
use Rattle.step_table.specs.Packed.{Where, SeatState, Holds}
use Rattle.step_table.specs.Kinds.{StepKind, move, enlist, leave, MaySwap, told}
use Rattle.step_table.proofs.Enlisting.{enlist_allowed}
use Rattle.step_table.proofs.Taking.{move_allowed}
use Rattle.step_table.proofs.Leaving.{leave_allowed}
use Rattle.step_table.proofs.Laid.{swap_within}
use Rattle.step_table.proofs.table.StepTable.swap.Goals as goal

allowed : AllStepsKeepTheRule → CallersAreFresh → (m : StepKind) (k : Shape) (slots id : ℕ) (me : SeatState) (word new : ℕ) → MaySwap m k me word new → Allows (Holds k) slots id me word (λ _. new) (told m me)
allowed steps fresh (move v) k slots id me word new may = move_allowed steps fresh k slots id me word new v may
allowed steps fresh (enlist who) k slots id me word new may = enlist_allowed steps k slots id me word new who may
allowed steps fresh leave k slots id me word new may = leave_allowed steps k slots id me word new may
allowed steps fresh _ k slots id me word new may = absurd may

pub swap-requires : goal.swap-requires
swap-requires g c =
    let is = c.self.view_is in
    let may = subst (λ (z : Where). MaySwap g.M.Kind.kind z.shape c.args.seat.now.me c.args.word c.args.new) (sym is) c.requires.kind in
    (c.requires.seat ∙ sym (ap (λ (z : Where). z.id) is), swap_within g.M.Kind.kind _ _ _ _ _ c.self.invariant.0 may, allowed c.steps_keep_the_rule.ensures c.callers_are_fresh.ensures g.M.Kind.kind _ _ _ _ _ _ may)
