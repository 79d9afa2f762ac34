-- Cutting a seat in two and taking one in are moves that the table's rule allows.
use Rattle.std.proofs.Common.{◌≡◌, ℕ, List, [], ◌∷◌, ◌++◌, set, sym, ap, ◌∙◌}
use mathlib.Core.Option.{some}
use lib.ListN.{get_elem?}
use Rattle.atomic_table.specs.Table.{Splits, Joins}
use Rattle.atomic_table.proofs.Lists.{set_else}
use Rattle.ring_core.specs.declared.views.Shape.{Shape}
use Rattle.ring_core.specs.declared.views.Known.{Known}
use Rattle.ring_core.specs.declared.views.Pooling.{Pooling}
use Rattle.ring_core.specs.declared.views.Calling.{Calling}
use Rattle.ring_core.specs.declared.views.Departing.{Departing}
use Rattle.ring_core.specs.declared.views.View.{View}
use Rattle.ring_core.specs.Ring.{Ring}
use Rattle.ring_core.specs.Steps.{pool_view, caller_view, note_view, gone_view, spent_view, split_at, note_at, learn_at, gather_at}
use Rattle.ring_core.specs.RingLaws.{AllStepsKeepTheRule}
use Rattle.atomic_table.proofs.Lists.{set_again}
use Rattle.step_table.specs.Packed.{SeatState, Holds}
use Rattle.step_table.specs.Kinds.{split, note, learn, gather, MaySplit, MayJoin, left_of, right_of, both_of}

pub split_allowed : AllStepsKeepTheRule → (k : Shape) (id : ℕ) (me : SeatState) (who : ℕ) → MaySplit (split who) k me → Splits (Holds k) id me.0 (left_of (split who) me.0) (right_of (split who) me.0)
split_allowed steps k id me who may t holds at =
    let p : Pooling = may.0 in let s : Ring = holds.0 in let sp = holds.1 in
    let here : get_elem? s.views id ≡ some (pool_view k p) = ap (λ (l : List View). get_elem? l id) (sym sp.2) ∙ at ∙ ap some may.1 in
    (split_at k s id p who, (sp.0, sp.1, (λ i. set (sp.2 i) id (left_of (split who) (may.1 i)) ++ right_of (split who) (may.1 i) ∷ [])), (steps k s holds.2).split id who p here may.2, holds.3)

pub note_allowed : AllStepsKeepTheRule → (k : Shape) (id : ℕ) (me : SeatState) → MaySplit note k me → Splits (Holds k) id me.0 (left_of note me.0) (right_of note me.0)
note_allowed steps k id me may t holds at =
    let c : Calling = may.0 in let s : Ring = holds.0 in let sp = holds.1 in
    let here : get_elem? s.views id ≡ some (caller_view k c) = ap (λ (l : List View). get_elem? l id) (sym sp.2) ∙ at ∙ ap some may.1 in
    let same : set t.views id me.0 ≡ s.views = set_again t.views id me.0 at ∙ sp.2 in
    (note_at k s c, (sp.0, sp.1, (λ i. same i ++ right_of note (may.1 i) ∷ [])), (steps k s holds.2).note id c here, holds.3)

pub learn_allowed : AllStepsKeepTheRule → (k : Shape) (id : ℕ) (v : View) (other : ℕ) (w : View) → MayJoin learn k v w → Joins (Holds k) id v other w (both_of learn v w) spent_view
learn_allowed steps k id v other w may t holds at apart there =
    let c : Calling = may.0 in let n : Known = may.1 in let s : Ring = holds.0 in let sp = holds.1 in
    let here : get_elem? s.views id ≡ some (caller_view k c) = ap (λ (l : List View). get_elem? l id) (sym sp.2) ∙ at ∙ ap some may.2 in
    let told : get_elem? s.views other ≡ some (note_view k n) = ap (λ (l : List View). get_elem? l other) (sym sp.2) ∙ sym (set_else t.views id other (both_of learn v w) apart) ∙ there ∙ ap some may.3 in
    (learn_at k s id c other n, (sp.0, sp.1, (λ i. set (set (sp.2 i) id (both_of learn (may.2 i) (may.3 i))) other spent_view)), (steps k s holds.2).learn id other c n here apart told, holds.3)

pub gather_allowed : AllStepsKeepTheRule → (k : Shape) (id : ℕ) (v : View) (other : ℕ) (w : View) → MayJoin gather k v w → Joins (Holds k) id v other w (both_of gather v w) spent_view
gather_allowed steps k id v other w may t holds at apart there =
    let p : Pooling = may.0 in let d : Departing = may.1 in let s : Ring = holds.0 in let sp = holds.1 in
    let here : get_elem? s.views id ≡ some (pool_view k p) = ap (λ (l : List View). get_elem? l id) (sym sp.2) ∙ at ∙ ap some may.2 in
    let gone : get_elem? s.views other ≡ some (gone_view k d) = ap (λ (l : List View). get_elem? l other) (sym sp.2) ∙ sym (set_else t.views id other (both_of gather v w) apart) ∙ there ∙ ap some may.3 in
    (gather_at k s id p other d, (sp.0, sp.1, (λ i. set (set (sp.2 i) id (both_of gather (may.2 i) (may.3 i))) other spent_view)), (steps k s holds.2).gather id other p d here apart gone, holds.3)
