use Rattle.std.proofs.Common.{rules, ◌≡◌, ◌≤◌, ℕ, None, length, sym, ap, ◌∙◌, subst}
use Rattle.std.specs.Prelude.{slice_index_or}
use mathlib.Core.Option.{some}
use lib.ListN.{get_elem?}
use Rattle.slot_ring.proofs.Reading.{value_at, beyond, other_number, free_number, full_number}
use Rattle.slot_ring.proofs.left.frame_at.Goals.{then-word-number-via-then-word-number, then-word-number-via-else-word-number+then-word-lt-FILLED}
use Rattle.slot_ring.proofs.left.frame_at.Goals as goal

pub returns-then-word-number : goal.returns-then-word-number
returns-then-word-number c =
    let words = c.args.closed.now.words in let cells = c.args.closed.now.cells in
    let e = subst (λ (i : ℕ). get_elem? words i ≡ some c.word-word.result) c.turn_place.ensures c.word-word.ensures in
    elim c.then-word-number.branch [
      | then-word-number-via-then-word-number w ↦ other_number c.args.slots words cells c.args.number c.word-word.result e (search rules)
      | then-word-number-via-else-word-number+then-word-lt-FILLED w ↦ free_number c.args.slots words cells c.args.number c.word-word.result e (search rules)
    ]

pub returns-then-cell-cells : goal.returns-then-cell-cells
returns-then-cell-cells c =
    let words = c.args.closed.now.words in let cells = c.args.closed.now.cells in
    let e = subst (λ (i : ℕ). get_elem? words i ≡ some c.word-word.result) c.turn_place.ensures c.word-word.ensures in
    let high : length cells ≤ c.cell_of-cell.result = search rules in
    sym (beyond cells c.cell_of-cell.result high) ∙ (ap (λ (i : ℕ). slice_index_or cells i None) c.cell_of-cell.ensures.value ∙ full_number c.args.slots words cells c.args.number c.word-word.result e (search rules) (search rules))

pub returns : goal.returns
returns c =
    let words = c.args.closed.now.words in let cells = c.args.closed.now.cells in
    let e = subst (λ (i : ℕ). get_elem? words i ≡ some c.word-word.result) c.turn_place.ensures c.word-word.ensures in
    sym (value_at cells c.cell_of-cell.result c.cell.result None c.cell.ensures) ∙ (ap (λ (i : ℕ). slice_index_or cells i None) c.cell_of-cell.ensures.value ∙ full_number c.args.slots words cells c.args.number c.word-word.result e (search rules) (search rules))
