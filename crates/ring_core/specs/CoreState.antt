-- What the program finds in the ring that it keeps.
use Rattle.std.specs.Prelude.{◌≡◌, ◌≢◌, ◌⊎◌, ℕ, List, [], ◌∷◌, Option, Some, None, slice_index_or, slice_set}
use mathlib.Core.Option.{some}
use lib.ListN.{get_elem?}
use Rattle.ring_core.specs.declared.views.Role.{Role}
use Rattle.ring_core.specs.declared.views.View.{View}
use Rattle.playout.specs.declared.call.Call.{Call}
use Rattle.ring_core.specs.declared.words.SlotWord.{SlotWord}
use Rattle.ring_core.specs.declared.words.Cell.{Cell}
use Rattle.ring_core.specs.declared.words.Berth.{Berth}
use Rattle.ring_core.specs.declared.words.Berth.TheVariants.{Fresh}
use Rattle.ring_core.specs.Ring.{Ring, word_of, IsCalling, HasLeft, NoneMeets}
use Rattle.ring_core.specs.Steps.{spent_view}

-- this is the seat's view, or a spent one where there is no such seat
abbrev pub Sees : Ring → ℕ → View → Type 0
Sees s seat v = slice_index_or s.views seat spent_view ≡ v

-- the step f by a seat with this view makes of a ring with these slots and cells one with the new slots and cells, in which the seat has the new view
abbrev pub StepsOnSlots : ℕ → View → View → List SlotWord → List SlotWord → List Cell → List Cell → (Ring → Role → Ring) → Type 0
StepsOnSlots seat view new slots new_slots cells new_cells f = (s : Ring) → s.slots ≡ slots → s.cells ≡ cells → Sees s seat view
    → record s { slots = new_slots; cells = new_cells; views = slice_set s.views seat new } ≡ f s view.role

-- the same of a step on berths and cells
abbrev pub StepsOnBerths : ℕ → View → View → List Berth → List Berth → List Cell → List Cell → (Ring → Role → Ring) → Type 0
StepsOnBerths seat view new berths new_berths cells new_cells f = (s : Ring) → s.berths ≡ berths → s.cells ≡ cells → Sees s seat view
    → record s { berths = new_berths; cells = new_cells; views = slice_set s.views seat new } ≡ f s view.role

-- of a step by any seat with this view that only reads the slots
abbrev pub StepsByReading : View → View → List SlotWord → (Ring → ℕ → Role → Ring) → Type 0
StepsByReading view new slots f = (s : Ring) (seat : ℕ) → s.slots ≡ slots → Sees s seat view → record s { views = slice_set s.views seat new } ≡ f s seat view.role

-- on the source, which is held or not
abbrev pub StepsOnSource : View → View → Option ℕ → Option ℕ → (Ring → ℕ → Role → Ring) → Type 0
StepsOnSource view new held new_held f = (s : Ring) (seat : ℕ) → s.source ≡ word_of held → Sees s seat view
    → record s { source = word_of new_held; views = slice_set s.views seat new } ≡ f s seat view.role

-- on the base
abbrev pub StepsOnBase : View → View → Option ℕ → Option ℕ → (Ring → ℕ → Role → Ring) → Type 0
StepsOnBase view new held new_held f = (s : Ring) (seat : ℕ) → s.base ≡ word_of held → Sees s seat view → record s { base = word_of new_held; views = slice_set s.views seat new } ≡ f s seat view.role

-- and of a step of two seats with these views
abbrev pub StepsOfTwo : View → View → View → View → (Ring → ℕ → ℕ → Role → Role → Ring) → Type 0
StepsOfTwo one two new_one new_two f = (s : Ring) (seat other : ℕ) → other ≢ seat → Sees s seat one → Sees s other two
    → record s { views = slice_set (slice_set s.views seat new_one) other new_two } ≡ f s seat other one.role two.role

-- what there is, as a list
abbrev pub list_of : Option View → List View
list_of None = []
list_of (Some v) = v ∷ []

-- the cell of the fresh berth at this place, or none where there is none
abbrev pub IsFresh : List Berth → ℕ → Option ℕ → Type 0
IsFresh berths who None = (cell : ℕ) → get_elem? berths who ≢ some (Fresh cell)
IsFresh berths who (Some cell) = get_elem? berths who ≡ some (Fresh cell)

-- the view says that this is the caller's list, whether it has left or not
abbrev pub HasList : ℕ → List Call → Role → Type 0
HasList who list r = IsCalling who list r ⊎ HasLeft who list r

-- a list that some view has for the caller, or none where no view has one
abbrev pub IsListOf : Ring → ℕ → List Call → Type 0
IsListOf s who list = ((seat : ℕ) × ((v : View) × (get_elem? s.views seat ≡ some v) × HasList who list v.role)) ⊎ ((list ≡ []) × NoneMeets s.views (HasList who))
