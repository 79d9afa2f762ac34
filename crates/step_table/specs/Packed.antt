-- The ring as the words, the values at home and the views of a table.
use Rattle.std.specs.Prelude.{◌≡◌, ℕ, ◌+◌, ◌*◌, ◌<◌, ◌≤◌, ◌^◌, List, [], ◌∷◌, ◌++◌, map, Option, Bool, true, false}
use mathlib.Core.Option as maybe
use Rattle.atomic_table.specs.Table.{State, Me}
use Rattle.atomic_table.specs.Seated.{TableId}
use Rattle.ring_core.specs.declared.views.Shape.{Shape}
use Rattle.ring_core.specs.declared.views.View.{View}
use Rattle.ring_core.specs.declared.words.SlotWord.{SlotWord}
use Rattle.ring_core.specs.declared.words.Berth.{Berth}
use Rattle.ring_core.specs.declared.words.Berth.TheVariants.{Fresh, Out, Home}
use Rattle.ring_core.specs.declared.words.Cell.{Cell}
use Rattle.ring_core.specs.declared.words.Cell.TheVariants.{AtHome, OutWith}
use Rattle.ring_core.specs.Ring.{Ring, RingRule, slot_count}
use Rattle.ring_core.specs.Steps.{pool_view}
use Rattle.ring_core.specs.Opening.{all_rights, opening_ring}

-- what a cell holds
abbrev pub Kept : Type 0
Kept = Option (List ℕ)

-- a seat's view, and the cells that it has, each with what it holds
abbrev pub SeatState : Type 0
SeatState = Me Kept View

abbrev pub filled_bit : Bool → ℕ
filled_bit true = 9223372036854775808
filled_bit false = 0

-- bit 63 says filled, bits 48 to 62 are the cell, bits 0 to 47 the number
abbrev pub pack_slot : SlotWord → ℕ
pack_slot w = filled_bit w.filled + w.cell * 281474976710656 + w.number

-- the number and the cell are within their bits
abbrev pub Fits : SlotWord → Type 0
Fits w = (w.number < 281474976710656) × (w.cell < 32768)

-- four times the cell, and the state: 0 fresh, 1 out, with no cell, 2 home
abbrev pub pack_berth : Berth → ℕ
pack_berth (Fresh c) = 4 * c
pack_berth Out = 1
pack_berth (Home c) = 4 * c + 2

-- the slots' words, the berths' words, the source word and the base word
abbrev pub words_of : Ring → List ℕ
words_of s = map pack_slot s.slots ++ (map pack_berth s.berths ++ s.source ∷ s.base ∷ [])

abbrev pub home_of : Cell → maybe.Option Kept
home_of (AtHome x) = maybe.some x
home_of (OutWith j) = maybe.none

-- the table's words, values at home and views are those of this ring
abbrev pub Spells : State Kept View → Ring → Type 0
Spells t s = (t.words ≡ words_of s) × (t.homes ≡ map home_of s.cells) × (t.views ≡ s.views)

-- the source word and the base word are within 33 bits
abbrev pub HeldFit : Ring → Type 0
HeldFit s = (s.source < 2 ^ 33) × (s.base < 2 ^ 33)

-- the table is a ring that meets the rule
abbrev pub Holds : Shape → State Kept View → Type 0
Holds k t = (s : Ring) × Spells t s × RingRule k s × HeldFit s

abbrev pub first_view : Shape → View
first_view k = pool_view k (all_rights k)

-- the words and the number of cells of a ring of this shape at the start
pub record IsOpening (k : Shape) (word_list : List ℕ) (cell_count : ℕ) : Type 0 where
  pub some_filer : 1 ≤ k.filers
  pub filers : k.filers ≤ 64
  pub g : k.g ≤ 10
  pub words : word_list ≡ words_of (opening_ring k)
  pub cells : cell_count ≡ slot_count k + k.filers + 1

-- which table it is, and for how many filers and slots
pub record Where : Type 0 where
  pub id : TableId
  pub shape : Shape
