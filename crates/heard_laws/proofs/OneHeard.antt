-- What is heard of a list of items is one.
use Rattle.std.proofs.Common.{◌≡◌, ℕ, ◌<◌, List, [], ◌∷◌, length, refl, sym, ap, subst, ◌∙◌, arith}
use Rattle.std.specs.Prelude.{get_or, reverse, take}
use Rattle.std.proofs.lemmas.List.{ext_get_or}
use Rattle.frame_codec.specs.declared.item.Item.{Item}
use Rattle.frame_codec.specs.declared.item.Item.TheVariants.{Idle, Frame, Erasure}
use Rattle.frame_codec.specs.Inverses.{FieldsAreOne}
use Rattle.fr_decoder.specs.Speech.{IsSpeech}
use Rattle.substitution.specs.declared.heard.Heard.{Heard}
use Rattle.substitution.specs.declared.heard.Heard.TheVariants.{Nothing}
use Rattle.substitution.specs.Heard.{laid_out, spoken}
use Rattle.substitution.specs.Masking.{AreSlots, IsMasking, IsSlot, Lost, Quiet, Slot, Spoken, masked}
use Rattle.heard_laws.specs.Sameness.{HeardIsOne}
use Rattle.heard_laws.proofs.OneSpeech.{one_speech}

module _ (fields_are_one : FieldsAreOne) where
  -- an item is one slot, since a frame spells one list of fields
  one_slot : (item : Item) (p q : Slot) → IsSlot item p → IsSlot item q → p ≡ q
  one_slot Idle Quiet Quiet x y = refl
  one_slot Idle Quiet (Spoken q) x y = absurd y
  one_slot Idle Quiet Lost x y = absurd y
  one_slot Idle (Spoken p) q x y = absurd x
  one_slot Idle Lost q x y = absurd x
  one_slot (Frame f) (Spoken p) (Spoken q) x y = ap Spoken (fields_are_one f q p y.1 x.1 y.0 x.0)
  one_slot (Frame f) (Spoken p) Quiet x y = absurd y
  one_slot (Frame f) (Spoken p) Lost x y = absurd y
  one_slot (Frame f) Quiet q x y = absurd x
  one_slot (Frame f) Lost q x y = absurd x
  one_slot Erasure Lost Lost x y = refl
  one_slot Erasure Lost Quiet x y = absurd y
  one_slot Erasure Lost (Spoken q) x y = absurd y
  one_slot Erasure Quiet q x y = absurd x
  one_slot Erasure (Spoken p) q x y = absurd x

  one_slots : (items : List Item) (ps qs : List Slot) → AreSlots items ps → AreSlots items qs → ps ≡ qs
  one_slots [] [] [] x y = refl
  one_slots [] [] (q ∷ qs) x y = absurd y
  one_slots [] (p ∷ ps) qs x y = absurd x
  one_slots (item ∷ items) [] qs x y = absurd x
  one_slots (item ∷ items) (p ∷ ps) [] x y = absurd y
  one_slots (item ∷ items) (p ∷ ps) (q ∷ qs) x y =
      let first : p ≡ q = one_slot item p q x.0 y.0 in
      let rest : ps ≡ qs = one_slots items ps qs x.1 y.1 in
      λ z. first z ∷ rest z

  one_masking : (seed : List ℕ) (items : List Item) (a b : List Heard) → IsMasking seed items a → IsMasking seed items b → a ≡ b
  one_masking seed items a b x y =
      let slots : x.slots ≡ y.slots = one_slots items x.slots y.slots x.spelled y.spelled in
      let count : length x.slots ≡ length y.slots = ap length slots in
      ext_get_or Nothing a b (x.count ∙ count ∙ sym y.count) (λ (j : ℕ) (inside : j < length a).
      x.each j (omega (arith, x.count)) ∙ ap (λ (l : List Slot). masked seed (get_or l j Quiet) (reverse (take j l))) slots ∙ sym (y.each j (omega (arith, x.count, count))))

  pub one_heard : HeardIsOne
  one_heard seed items a b x y =
      let heard : x.heard ≡ y.heard = one_masking seed items x.heard y.heard x.masking y.masking in
      let decoded : IsSpeech (spoken x.heard) y.speech = subst (λ (h : List Heard). IsSpeech (spoken h) y.speech) (sym heard) y.decoded in
      let speech : x.speech ≡ y.speech = one_speech (spoken x.heard) x.speech y.speech x.decoded decoded in
      let laid : laid_out x.heard x.speech ≡ laid_out y.heard y.speech = λ z. laid_out (heard z) (speech z) in
      x.laid ∙ laid ∙ sym y.laid
