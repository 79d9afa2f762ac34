use Rattle.std.proofs.Common.{ℕ, arith, sym, ap, ◌∙◌, subst}
use Rattle.atomic_table.specs.Table.{Joins}
use Rattle.ring_core.specs.declared.views.Shape.{Shape}
use Rattle.ring_core.specs.declared.views.View.{View}
use Rattle.ring_core.specs.Steps.{spent_view}
use Rattle.ring_core.specs.RingLaws.{AllStepsKeepTheRule}
use Rattle.step_table.specs.Packed.{Where, Holds}
use Rattle.step_table.specs.Kinds.{StepKind, learn, gather, MayJoin, both_of}
use Rattle.step_table.proofs.Moving.{learn_allowed, gather_allowed}
use Rattle.step_table.proofs.table.StepTable.join.Goals as goal

allowed : AllStepsKeepTheRule → (m : StepKind) (k : Shape) (id : ℕ) (v : View) (other : ℕ) (w : View) → MayJoin m k v w → Joins (Holds k) id v other w (both_of m v w) spent_view
allowed steps learn k id v other w may = learn_allowed steps k id v other w may
allowed steps gather k id v other w may = gather_allowed steps k id v other w may
allowed steps _ k id v other w may = absurd may

pub join_seat-requires : goal.join_seat-requires
join_seat-requires g c =
    let is = c.self.view_is in
    let id = sym (ap (λ (z : Where). z.id) is) in
    let may = subst (λ (z : Where). MayJoin g.M.Kind.kind z.shape c.args.into.now.me.0 c.args.from.me.0) (sym is) c.requires.kind in
    let wide = c.self.invariant.0 in
    (c.requires.seat.0 ∙ id, c.requires.seat.1 ∙ id, c.requires.seat.2, omega arith, allowed c.steps_keep_the_rule.ensures g.M.Kind.kind _ _ _ _ _ may)
