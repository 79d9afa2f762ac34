-- What a table that was closed leaves.
use Rattle.std.specs.Prelude.{◌≡◌, ℕ, List}
use mathlib.Core.Option.{some}
use lib.ListN.{get_elem?}
use Rattle.ring_core.specs.declared.views.Shape.{Shape}
use Rattle.ring_core.specs.declared.views.View.{View}
use Rattle.ring_core.specs.declared.words.Cell.TheVariants.{AtHome}
use Rattle.ring_core.specs.Ring.{Ring, RingRule}
use Rattle.step_table.specs.Packed.{Kept, words_of}

-- the view of the seat that closed it, the words, and what the cells hold
pub record ClosedView : Type 0 where
  pub view : View
  pub words : List ℕ
  pub cells : List Kept

-- the view, the words, and the cells that are at home, are those of one ring that meets the rule
abbrev pub Ends : Shape → ClosedView → Type 0
Ends k c =
    (s : Ring) × RingRule k s × ((seat : ℕ) × (get_elem? s.views seat ≡ some c.view)) × (c.words ≡ words_of s)
    × ((i : ℕ) (x : Kept) → get_elem? s.cells i ≡ some (AtHome x) → get_elem? c.cells i ≡ some x)
