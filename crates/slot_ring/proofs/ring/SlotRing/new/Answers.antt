use Rattle.std.proofs.Common.{rules, ◌≡◌, ◌+◌, ℕ, ap, ◌∙◌}
use Rattle.ring_core.specs.declared.views.Shape.{Shape}
use Rattle.ring_core.specs.Opening.{all_rights}
use Rattle.step_table.specs.Packed.{SeatState}
use Rattle.slot_ring.specs.Seen.{rights_in}
use Rattle.slot_ring.specs.Remains.{shape_of}
use Rattle.slot_ring.proofs.ring.SlotRing.new.Goals as goal

pub new-requires : goal.new-requires
new-requires c =
    record {
      opening = (
        shape_of c.args.filers c.args.g,
        record { some_filer = c.requires.filers.0; filers = c.requires.filers.1; g = c.requires.g; words = c.in_ok-words.ensures; cells = ap (λ (n : ℕ). n + c.args.filers + 1) c.slots_in.ensures.value },
      );
    }

pub invariant_of-result : goal.invariant_of-result
invariant_of-result c =
    let k : Shape = shape_of c.args.filers c.args.g in
    let is : c.in_ok-table.table.shape ≡ k = c.in_ok-table.ensures.shape k (record { some_filer = c.requires.filers.0; filers = c.requires.filers.1; g = c.requires.g; words = c.in_ok-words.ensures; cells = ap (λ (n : ℕ). n + c.args.filers + 1) c.slots_in.ensures.value }) in
    (ap (λ (x : Shape). x.g) is, ap (λ (x : Shape). x.filers) is, search rules, search rules, c.requires.g, c.requires.filers.1)

pub returns-clause-shape : goal.returns-clause-shape
returns-clause-shape c =
    let k : Shape = shape_of c.args.filers c.args.g in
    let is : c.in_ok-table.table.shape ≡ k = c.in_ok-table.ensures.shape k (record { some_filer = c.requires.filers.0; filers = c.requires.filers.1; g = c.requires.g; words = c.in_ok-words.ensures; cells = ap (λ (n : ℕ). n + c.args.filers + 1) c.slots_in.ensures.value }) in
    (ap (λ (x : Shape). x.filers) is, ap (λ (x : Shape). x.g) is)

pub returns-clause-blank : goal.returns-clause-blank
returns-clause-blank c =
    let k : Shape = shape_of c.args.filers c.args.g in
    let is : c.in_ok-table.table.shape ≡ k = c.in_ok-table.ensures.shape k (record { some_filer = c.requires.filers.0; filers = c.requires.filers.1; g = c.requires.g; words = c.in_ok-words.ensures; cells = ap (λ (n : ℕ). n + c.args.filers + 1) c.slots_in.ensures.value }) in
    let e = c.in_ok-table.ensures.seat in
    ((λ i. record { id = e.0 i; shape = ap (λ (m : SeatState). m.0.shape) e.1 i }), ap (λ (m : SeatState). rights_in m.0.role) e.1 ∙ ap (λ (x : Shape). (all_rights x).rights) is)
