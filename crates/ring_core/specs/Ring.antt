-- The ring as plain data, and its rule.
use Rattle.std.specs.Prelude.{◌≡◌, ◌≢◌, ◌⊎◌, ℕ, ◌+◌, ◌%◌, ◌<◌, ◌≤◌, ◌^◌, List, [], ◌∷◌, length, Option, Some, None, true, false, slice_get}
use Rattle.std.specs.FinMap as map
use mathlib.Core.Option.{some}
use lib.ListN.{get_elem?}
use Rattle.playout.specs.declared.call.Call.{Call}
pub use Rattle.ring_core.specs.declared.words.SlotWord.{SlotWord}
pub use Rattle.ring_core.specs.declared.words.Berth.{Berth}
pub use Rattle.ring_core.specs.declared.words.Berth.TheVariants.{Fresh, Out, Home}
pub use Rattle.ring_core.specs.declared.words.Cell.{Cell}
pub use Rattle.ring_core.specs.declared.words.Cell.TheVariants.{AtHome, OutWith}
use Rattle.ring_core.specs.declared.views.Shape.{Shape}
use Rattle.ring_core.specs.declared.views.Known.{Known}
use Rattle.ring_core.specs.declared.views.Flight.{Flight}
use Rattle.ring_core.specs.declared.views.Calling.{Calling}
use Rattle.ring_core.specs.declared.views.Role.{Role}
use Rattle.ring_core.specs.declared.views.Role.TheVariants.{Pool, Caller, Departed, Note, Spent}
use Rattle.ring_core.specs.declared.views.View.{View}
use Rattle.playout.specs.Machine.{start, Machine, opening_machine}
use Rattle.playout.specs.History.{Entry, IsLegal, after_all, calls_of, calls, moves, AllMayCall}
use Rattle.playout.specs.Plays.{AllAccepted}

pub record Ring : Type 0 where
  pub slots : List SlotWord
  pub berths : List Berth
  pub source : ℕ
  pub base : ℕ
  pub cells : List Cell
  pub views : List View

-- where a cell is named
pub data Place : Type 0 where
  in_slot : ℕ → Place
  in_berth : ℕ → Place
  with_seat : ℕ → Place

abbrev pub slot_count : Shape → ℕ
slot_count k = 2 ^ k.g

-- a value in a source or base word
abbrev pub word_of : Option ℕ → ℕ
word_of None = 0
word_of (Some x) = 4294967296 + x

abbrev pub HasRight : ℕ → Role → Type 0
HasRight who (Pool p) = slice_get p.rights who ≡ Some true
HasRight who (Caller c) = ⊥
HasRight who (Departed d) = ⊥
HasRight who (Note n) = ⊥
HasRight who Spent = ⊥

abbrev pub IsCalling : ℕ → List Call → Role → Type 0
IsCalling who list (Pool p) = ⊥
IsCalling who list (Caller c) = (c.who ≡ who) × (c.list ≡ list)
IsCalling who list (Departed d) = ⊥
IsCalling who list (Note n) = ⊥
IsCalling who list Spent = ⊥

-- a caller that has left, gathered or not
abbrev pub HasLeft : ℕ → List Call → Role → Type 0
HasLeft who list (Pool p) = slice_get p.lists who ≡ Some (Some list)
HasLeft who list (Caller c) = ⊥
HasLeft who list (Departed d) = (d.who ≡ who) × (d.list ≡ list)
HasLeft who list (Note n) = ⊥
HasLeft who list Spent = ⊥

module _ (views : List View) where
  abbrev pub At : ℕ → View → Type 0
  At seat v = get_elem? views seat ≡ some v

  -- just one view meets it, and with this list
  abbrev pub JustOne : (List Call → Role → Type 0) → List Call → Type 0
  JustOne meets list = (seat : ℕ) × ((v : View) × At seat v × meets list v.role)
      × ((other : ℕ) (v : View) (l : List Call) → At other v → meets l v.role → (other ≡ seat) × (l ≡ list))

  abbrev pub NoneMeets : (List Call → Role → Type 0) → Type 0
  NoneMeets meets = (seat : ℕ) (v : View) (l : List Call) → At seat v → meets l v.role → ⊥

  abbrev pub CallerStands : ℕ → List Call → Berth → Type 0
  CallerStands who list (Fresh cell) = (list ≡ []) × NoneMeets (IsCalling who) × NoneMeets (HasLeft who)
      × ((one two : ℕ) (v w : View) → At one v → At two w → HasRight who v.role → HasRight who w.role → one ≡ two)
  CallerStands who list Out = ((seat : ℕ) (v : View) → At seat v → HasRight who v.role → ⊥) × JustOne (IsCalling who) list × NoneMeets (HasLeft who)
  CallerStands who list (Home cell) = ((seat : ℕ) (v : View) → At seat v → HasRight who v.role → ⊥) × NoneMeets (IsCalling who) × JustOne (HasLeft who) list

-- what a berth word names
abbrev pub berth_cell : Berth → Option ℕ
berth_cell (Fresh c) = Some c
berth_cell Out = None
berth_cell (Home c) = Some c

-- a cell that a word names is at home, a spare is out with its seat
abbrev pub StandsIn : Place → Cell → Type 0
StandsIn (in_slot i) cell = (x : Option (List ℕ)) × (cell ≡ AtHome x)
StandsIn (in_berth i) cell = (x : Option (List ℕ)) × (cell ≡ AtHome x)
StandsIn (with_seat j) cell = cell ≡ OutWith j

-- the cell c is named at this place
abbrev pub Names : Ring → Place → ℕ → Type 0
Names s (in_slot i) c = (w : SlotWord) × (get_elem? s.slots i ≡ some w) × (w.cell ≡ c)
Names s (in_berth k) c = (b : Berth) × (get_elem? s.berths k ≡ some b) × (berth_cell b ≡ Some c)
Names s (with_seat j) c = (v : View) × (x : Calling) × (get_elem? s.views j ≡ some v) × (v.role ≡ Caller x) × (x.spare ≡ c)

-- The word of slot i at a position, with the frames of the machine
pub record SlotFits (r : ℕ) (m : Machine) (cells : List Cell) (i : ℕ) (w : SlotWord) : Type 0 where
  pub reached : m.position ≤ w.number
  pub near : w.number < m.position + r
  pub congruent : w.number % r ≡ i
  pub filled : w.filled ≡ true → (f : List ℕ) × (map.get m.frames w.number ≡ Some f) × (get_elem? cells w.cell ≡ some (AtHome (Some f)))
  pub free : w.filled ≡ false → map.get m.frames w.number ≡ None

-- What a view knows is so
pub record KnownFits (source_word base_word : ℕ) (m : Machine) (history : List Entry) (k : Known) : Type 0 where
  pub pairs : AllAccepted k.pairs history
  pub position : k.position ≤ m.position
  pub source : (x : ℕ) → k.source ≡ Some x → source_word ≡ word_of (Some x)
  pub base : (x : ℕ) → k.base ≡ Some x → base_word ≡ word_of (Some x)

abbrev pub FlightFits : ℕ → List SlotWord → Option Flight → Type 0
FlightFits r slots None = Unit {0}
FlightFits r slots (Some f) = (w : SlotWord) × (get_elem? slots (f.number % r) ≡ some w) × (f.number ≤ w.number) × (w.number ≡ f.number → w.filled ≡ false → w.cell ≡ f.cell)

abbrev pub RoleFits : Ring → ℕ → Machine → List Entry → ℕ → Role → Type 0
RoleFits s r m h filers (Pool p) = (length p.lists ≡ filers + 1) × (length p.rights ≡ filers + 1)
RoleFits s r m h filers (Caller c) = (c.who ≤ filers) × KnownFits s.source s.base m h c.known × FlightFits r s.slots c.flight
RoleFits s r m h filers (Departed d) = d.who ≤ filers
RoleFits s r m h filers (Note n) = KnownFits s.source s.base m h n
RoleFits s r m h filers Spent = Unit {0}

pub record IsSized (k : Shape) (s : Ring) : Type 0 where
  pub some_filer : 1 ≤ k.filers
  pub filers : k.filers ≤ 64
  pub g : k.g ≤ 10
  pub slots : length s.slots ≡ slot_count k
  pub berths : length s.berths ≡ k.filers + 1
  pub cells : length s.cells ≡ slot_count k + k.filers + 1

pub record RingRule (k : Shape) (s : Ring) : Type 0 where
  pub history : List Entry
  pub place : ℕ → Place
  pub sized : IsSized k s
  pub shaped : (j : ℕ) (v : View) → get_elem? s.views j ≡ some v → v.role ≢ Spent → v.shape ≡ k
  pub legal : IsLegal (slot_count k) opening_machine history
  pub callers : AllMayCall k.filers history
  pub slot : (i : ℕ) (w : SlotWord) → get_elem? s.slots i ≡ some w → SlotFits (slot_count k) (after_all opening_machine history) s.cells i w
  -- each cell is named once: at its place, and nowhere else
  pub named : (c : ℕ) (x : Cell) → get_elem? s.cells c ≡ some x → Names s (place c) c × StandsIn (place c) x
  pub alone : (p : Place) (c : ℕ) → Names s p c → (place c ≡ p) × (c < length s.cells)
  pub caller : (who : ℕ) (b : Berth) → get_elem? s.berths who ≡ some b → CallerStands s.views who (calls_of who history) b
  pub position : (after_all opening_machine history).position ≡ start + moves (calls history)
  pub bound : (after_all opening_machine history).position ≤ 2 ^ 33
  pub role : (j : ℕ) (v : View) → get_elem? s.views j ≡ some v → RoleFits s (slot_count k) (after_all opening_machine history) history k.filers v.role
  pub source : s.source ≡ word_of (after_all opening_machine history).source
  pub base : s.base ≡ word_of (after_all opening_machine history).base

-- the pair is among these
abbrev pub Has : List (ℕ × List ℕ) → ℕ → List ℕ → Type 0
Has [] n f = ⊥
Has (p ∷ ps) n f = ((p.0 ≡ n) × (p.1 ≡ f)) ⊎ Has ps n f
