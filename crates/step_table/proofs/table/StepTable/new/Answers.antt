use Rattle.std.proofs.Common.{◌≡◌, ◌+◌, ◌^◌, ℕ, List, length, map, refl, sym, ap, ◌∙◌, subst, arith}
use Rattle.std.specs.Prelude.{replicate}
use mathlib.Core.Option as maybe
use Rattle.atomic_table.specs.Table.{opening}
use Rattle.ring_core.specs.declared.views.Shape.{Shape}
use Rattle.ring_core.specs.Ring.{slot_count}
use Rattle.ring_core.specs.Opening.{opening_ring}
use Rattle.step_table.specs.Packed.{Holds, first_view, IsOpening}
use Rattle.step_table.proofs.Starting.{no_frame, empty_homes, length-words}
use Rattle.step_table.proofs.table.StepTable.new.Goals as goal

pub vacant-requires : goal.vacant-requires
vacant-requires c =
    let k : Shape = c.requires.opening.0 in let o = c.requires.opening.1 in
    let row = c.as_slice-row.result.now in
    let same : row ≡ c.args.words.items = c.as_slice-row.ensures.value in
    let is : c.shape_of-shape.result ≡ k = c.shape_of-shape.ensures k (subst (λ (l : List ℕ). IsOpening k l c.args.cells) (sym same) o) in
    subst (λ (x : Shape). Holds x (opening row (replicate c.args.cells no_frame) (first_view x))) (sym is) (
      opening_ring k,
      (same ∙ o.words, ap (λ (n : ℕ). map maybe.some (replicate n no_frame)) o.cells ∙ empty_homes (slot_count k + k.filers + 1), refl),
      c.opening_meets_the_rule.ensures k o.some_filer o.filers o.g,
      (omega arith, omega arith),
    )

pub invariant_of-result : goal.invariant_of-result
invariant_of-result c =
    let t = c.in_ok-table.ensures in
    let k : Shape = c.requires.opening.0 in let o = c.requires.opening.1 in
    let row = c.as_slice-row.result.now in
    let same : row ≡ c.args.words.items = c.as_slice-row.ensures.value in
    let is : c.shape_of-shape.result ≡ k = c.shape_of-shape.ensures k (subst (λ (l : List ℕ). IsOpening k l c.args.cells) (sym same) o) in
    let key : k ≡ c.in_ok-table.table.shared.key = sym (t.5 ∙ is) in (
      t.0 ∙ (ap length (same ∙ o.words) ∙ (length-words k ∙ ap (λ (x : Shape). 2 ^ x.g + x.filers + 3) key)),
      t.1 ∙ (o.cells ∙ ap (λ (x : Shape). 2 ^ x.g + x.filers + 1) key),
    )
