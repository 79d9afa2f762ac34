-- Masking: what is decoded at each place of a list of items, which looks back over the whole list.
use Rattle.std.specs.Prelude.{ℕ, ◌≡◌, ◌+◌, ◌<◌, min, List, [], ◌∷◌, length, take, reverse, get_or, Option, Some, None, IfSome, if◌then◌else◌}
use Rattle.frame_codec.specs.declared.item.Item.{Item}
use Rattle.frame_codec.specs.declared.item.Item.TheVariants.{Idle, Frame, Erasure}
use Rattle.frame_codec.specs.Frame.{Fields, IsWithinWidths, Spells}
use Rattle.rand_chacha.specs.ChaCha.{ChaCha, next_word}
use Rattle.substitution.specs.declared.heard.Heard.{Heard}
use Rattle.substitution.specs.declared.heard.Heard.TheVariants.{Nothing, Speech}
use Rattle.substitution.specs.Covering.{is_muted, covered, random_word, generator_at}

-- an item, with the fields of its frame
pub data Slot : Type 0 where
  Quiet : Slot
  Spoken : Fields → Slot
  Lost : Slot

-- the item is this slot; a frame spells its fields
abbrev pub IsSlot : Item → Slot → Type 0
IsSlot Idle Quiet = Unit {0}
IsSlot (Frame f) (Spoken p) = Spells f p × IsWithinWidths p
IsSlot Erasure Lost = Unit {0}
IsSlot Idle (Spoken p) = ⊥
IsSlot Idle Lost = ⊥
IsSlot (Frame f) Quiet = ⊥
IsSlot (Frame f) Lost = ⊥
IsSlot Erasure Quiet = ⊥
IsSlot Erasure (Spoken p) = ⊥

-- each item is the slot at its place
abbrev pub AreSlots : List Item → List Slot → Type 0
AreSlots [] [] = Unit {0}
AreSlots (item ∷ items) (slot ∷ slots) = IsSlot item slot × AreSlots items slots
AreSlots [] (slot ∷ slots) = ⊥
AreSlots (item ∷ items) [] = ⊥

-- the last frame, where one looks back from the latest slot
abbrev pub last_frame : List Slot → Option Fields
last_frame [] = None
last_frame (Spoken p ∷ back) = Some p
last_frame (Lost ∷ back) = last_frame back
last_frame (Quiet ∷ back) = last_frame back

-- how many erasures there were since the last frame, or at all where there was none
abbrev pub erasures_since : List Slot → ℕ
erasures_since [] = 0
erasures_since (Spoken p ∷ back) = 0
erasures_since (Lost ∷ back) = erasures_since back + 1
erasures_since (Quiet ∷ back) = erasures_since back

-- how many erasures were muted, each of which used a random word
abbrev pub muted_erasures : List Slot → ℕ
muted_erasures [] = 0
muted_erasures (Spoken p ∷ back) = muted_erasures back
muted_erasures (Lost ∷ back) = muted_erasures back + (if is_muted (last_frame back) (erasures_since back + 1) then 1 else 0)
muted_erasures (Quiet ∷ back) = muted_erasures back

-- what is decoded for a slot, where one looks back from it
abbrev pub masked : List ℕ → Slot → List Slot → Heard
masked seed Quiet back = Nothing
masked seed (Spoken p) back = Speech p
masked seed Lost back = Speech (covered (last_frame back) (erasures_since back + 1) (random_word seed (muted_erasures back)))

-- The masking of a list of items: what is decoded at each place.
pub record IsMasking (seed : List ℕ) (items : List Item) (heard : List Heard) : Type 0 where
  pub slots : List Slot
  pub spelled : AreSlots items slots
  pub count : length heard ≡ length slots
  pub each : (j : ℕ) → j < length slots → get_or heard j Nothing ≡ masked seed (get_or slots j Quiet) (reverse (take j slots))

-- what is kept between items: the last frame, how many erasures there were since, up to 255, and the generator
pub record Kept : Type 0 where
  pub last : Option Fields
  pub erasures : ℕ
  pub words : ChaCha

-- A masker stands after a list of items: what it gave is their masking, and it keeps what the next item needs.
pub record Masks (seed : List ℕ) (items : List Item) (heard : List Heard) (kept : Kept) : Type 0 where
  pub masking : IsMasking seed items heard
  pub last : kept.last ≡ last_frame (reverse masking.slots)
  pub within : IfSome kept.last IsWithinWidths
  pub erasures : kept.erasures ≡ min (erasures_since (reverse masking.slots)) 255
  pub words : kept.words ≡ generator_at seed (muted_erasures (reverse masking.slots))

-- the masker takes an item, by its kind
abbrev pub Steps : Kept → Item → Heard → Kept → Type 0
Steps old Idle heard new = (heard ≡ Nothing) × (new ≡ old)
Steps old (Frame f) heard new = (p : Fields) × (Spells f p × IsWithinWidths p) × (heard ≡ Speech p) × (new ≡ record { last = Some p; erasures = 0; words = old.words })
Steps old Erasure heard new = let k = min (old.erasures + 1) 255 in (heard ≡ Speech (covered old.last k (next_word 4 old.words).0))
    × (new ≡ record { last = old.last; erasures = k; words = if is_muted old.last k then (next_word 4 old.words).1 else old.words })
