use Rattle.std.proofs.Common.{ℕ, arith, sym, ap, ◌∙◌, subst}
use Rattle.atomic_table.specs.Table.{Splits}
use Rattle.ring_core.specs.declared.views.Shape.{Shape}
use Rattle.ring_core.specs.RingLaws.{AllStepsKeepTheRule}
use Rattle.step_table.specs.Packed.{Where, SeatState, Holds}
use Rattle.step_table.specs.Kinds.{StepKind, split, note, MaySplit, left_of, right_of}
use Rattle.step_table.proofs.Moving.{split_allowed, note_allowed}
use Rattle.step_table.proofs.table.StepTable.split.Goals as goal

allowed : AllStepsKeepTheRule → (m : StepKind) (k : Shape) (id : ℕ) (me : SeatState) → MaySplit m k me → Splits (Holds k) id me.0 (left_of m me.0) (right_of m me.0)
allowed steps (split who) k id me may = split_allowed steps k id me who may
allowed steps note k id me may = note_allowed steps k id me may
allowed steps _ k id me may = absurd may

pub split_seat-requires : goal.split_seat-requires
split_seat-requires g c =
    let is = c.self.view_is in
    let may = subst (λ (z : Where). MaySplit g.M.Kind.kind z.shape c.args.seat.now.me) (sym is) c.requires.kind in
    let wide = c.self.invariant.0 in
    (c.requires.seat ∙ sym (ap (λ (z : Where). z.id) is), omega arith, allowed c.steps_keep_the_rule.ensures g.M.Kind.kind _ _ _ may)
