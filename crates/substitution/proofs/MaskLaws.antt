-- Masking of a list goes on with an item at its end.
use Rattle.std.proofs.Common.{◌≡◌, ℕ, ◌+◌, ◌<◌, ◌≤◌, min, List, [], ◌∷◌, ◌++◌, length, take, reverse, get_or, None, if◌then◌else◌, refl, sym, ◌∙◌, ap, arith, length-append, below_more}
use Rattle.std.specs.Prelude.{IfSome}
use Rattle.std.proofs.lemmas.List.{reverse-append, take-append-le}
use Rattle.std.proofs.Math.ListN.{get_or-append}
use Rattle.std.proofs.Math.Seq.{take-append_seam, get_or-append_seam}
use Rattle.frame_codec.specs.declared.item.Item.{Item}
use Rattle.frame_codec.specs.declared.item.Item.TheVariants.{Idle, Frame, Erasure}
use Rattle.frame_codec.specs.Frame.{IsWithinWidths}
use Rattle.rand_chacha.specs.ChaCha.{next_word}
use Rattle.substitution.specs.declared.heard.Heard.{Heard}
use Rattle.substitution.specs.declared.heard.Heard.TheVariants.{Nothing, Speech}
use Rattle.substitution.specs.Covering.{is_muted, covered, random_word, generator_at}
use Rattle.substitution.specs.Masking.{Slot, Quiet, Spoken, Lost, IsSlot, AreSlots, last_frame, erasures_since, muted_erasures, masked, IsMasking, Kept, Masks, Steps}
use Rattle.substitution.proofs.CoverLaws.{covered-counted, is_muted-counted, words-more}

AreSlots-more : (items : List Item) (slots : List Slot) (item : Item) (slot : Slot) → AreSlots items slots → IsSlot item slot → AreSlots (items ++ item ∷ []) (slots ++ slot ∷ [])
AreSlots-more [] [] item slot all one = (one, tt)
AreSlots-more (x ∷ items) (s ∷ slots) item slot all one = (all.0, AreSlots-more items slots item slot all.1 one)
AreSlots-more [] (s ∷ slots) item slot all one = absurd all
AreSlots-more (x ∷ items) [] item slot all one = absurd all

-- at place j this is decoded
IsMaskedAt : List ℕ → List Slot → List Heard → ℕ → Type 0
IsMaskedAt seed slots heard j = get_or heard j Nothing ≡ masked seed (get_or slots j Quiet) (reverse (take j slots))

masked_before : (seed : List ℕ) (slots : List Slot) (heard : List Heard) (slot : Slot) (h : Heard) (j : ℕ) → length heard ≡ length slots → j < length slots
    → IsMaskedAt seed slots heard j → IsMaskedAt seed (slots ++ slot ∷ []) (heard ++ h ∷ []) j
unfolding IsMaskedAt
masked_before seed slots heard slot h j count inside is =
    let within : j < length heard = omega (arith, count) in
    let front : j ≤ length slots = omega arith in
    rw (get_or-append heard (h ∷ []) Nothing j within, get_or-append slots (slot ∷ []) Quiet j inside, take-append-le j slots (slot ∷ []) front) is

masked_last : (seed : List ℕ) (slots : List Slot) (heard : List Heard) (slot : Slot) (h : Heard) → length heard ≡ length slots → h ≡ masked seed slot (reverse slots)
    → IsMaskedAt seed (slots ++ slot ∷ []) (heard ++ h ∷ []) (length slots)
unfolding IsMaskedAt
masked_last seed slots heard slot h count is =
    rw (get_or-append_seam slots slot [] Quiet, take-append_seam slots (slot ∷ []))
    (ap (λ (n : ℕ). get_or (heard ++ h ∷ []) n Nothing) (sym count) ∙ get_or-append_seam heard h [] Nothing ∙ is)

IsMasking-more : (seed : List ℕ) (items : List Item) (heard : List Heard) (item : Item) (slot : Slot) (h : Heard) (before : IsMasking seed items heard) → IsSlot item slot
    → h ≡ masked seed slot (reverse before.slots) → IsMasking seed (items ++ item ∷ []) (heard ++ h ∷ [])
unfolding IsMaskedAt
IsMasking-more seed items heard item slot h before one is = record {
  slots = before.slots ++ slot ∷ [];
  spelled = AreSlots-more items before.slots item slot before.spelled one;
  count = length-append heard (h ∷ []) ∙ ap (λ (n : ℕ). n + 1) before.count ∙ sym (length-append before.slots (slot ∷ []));
  each = λ j inside. below_more (IsMaskedAt seed (before.slots ++ slot ∷ []) (heard ++ h ∷ [])) (length before.slots)
      (λ k here. masked_before seed before.slots heard slot h k before.count here (before.each k here))
      (masked_last seed before.slots heard slot h before.count is)
      j (rw length-append at inside);
}

-- what a masker keeps, where one looks back from the end of the list
pub record Keeps (seed : List ℕ) (back : List Slot) (kept : Kept) : Type 0 where
  pub last : kept.last ≡ last_frame back
  pub within : IfSome kept.last IsWithinWidths
  pub erasures : kept.erasures ≡ min (erasures_since back) 255
  pub words : kept.words ≡ generator_at seed (muted_erasures back)

Masks-more : (seed : List ℕ) (items : List Item) (heard : List Heard) (old next : Kept) (item : Item) (slot : Slot) (h : Heard) (before : Masks seed items heard old) → IsSlot item slot
    → h ≡ masked seed slot (reverse before.masking.slots) → Keeps seed (slot ∷ reverse before.masking.slots) next → Masks seed (items ++ item ∷ []) (heard ++ h ∷ []) next
unfolding IsMasking-more
Masks-more seed items heard old next item slot h before one is keeps =
    let back : reverse (before.masking.slots ++ slot ∷ []) ≡ slot ∷ reverse before.masking.slots = reverse-append before.masking.slots (slot ∷ []) in
    record {
      masking = IsMasking-more seed items heard item slot h before.masking one is;
      last = keeps.last ∙ ap last_frame (sym back);
      within = keeps.within;
      erasures = keeps.erasures ∙ ap (λ (s : List Slot). min (erasures_since s) 255) (sym back);
      words = keeps.words ∙ ap (λ (s : List Slot). generator_at seed (muted_erasures s)) (sym back);
    }

-- an erasure, over what is kept
lost_heard : (seed : List ℕ) (back : List Slot) (old : Kept) → Keeps seed back old → Speech (covered old.last (min (old.erasures + 1) 255) (next_word 4 old.words).0) ≡ masked seed Lost back
lost_heard seed back old keeps =
    let fits : IfSome (last_frame back) IsWithinWidths = rw keeps.last at keeps.within in
    rw (keeps.last, keeps.erasures, keeps.words) (ap Speech (covered-counted (last_frame back) (erasures_since back) (random_word seed (muted_erasures back)) fits))

lost_keeps : (seed : List ℕ) (back : List Slot) (old : Kept) → Keeps seed back old
    → Keeps seed (Lost ∷ back) (record { last = old.last; erasures = min (old.erasures + 1) 255; words = if is_muted old.last (min (old.erasures + 1) 255) then (next_word 4 old.words).1 else old.words })
lost_keeps seed back old keeps =
    let fits : IfSome (last_frame back) IsWithinWidths = rw keeps.last at keeps.within in
    record {
      last = keeps.last;
      within = keeps.within;
      erasures = omega (arith, keeps.erasures);
      words = rw (keeps.last, keeps.erasures, keeps.words, is_muted-counted (last_frame back) (erasures_since back) fits)
          (words-more (is_muted (last_frame back) (erasures_since back + 1)) seed (muted_erasures back));
    }

pub Masks-steps : (old new : Kept) (item : Item) (h : Heard) → Steps old item h new → (seed : List ℕ) (items : List Item) (heard : List Heard) → Masks seed items heard old
    → Masks seed (items ++ item ∷ []) (heard ++ h ∷ []) new
Masks-steps old new Idle h steps seed items heard before =
    Masks-more seed items heard old new Idle Quiet h before tt steps.0
    (rw steps.1 (record { last = before.last; within = before.within; erasures = before.erasures; words = before.words }))
Masks-steps old new (Frame f) h steps seed items heard before =
    Masks-more seed items heard old new (Frame f) (Spoken steps.0) h before steps.1 steps.2
    (rw steps.3 (record { last = refl; within = steps.1.1; erasures = refl; words = before.words }))
Masks-steps old new Erasure h steps seed items heard before =
    let keeps : Keeps seed (reverse before.masking.slots) old = record { last = before.last; within = before.within; erasures = before.erasures; words = before.words } in
    Masks-more seed items heard old new Erasure Lost h before tt (steps.0 ∙ lost_heard seed (reverse before.masking.slots) old keeps)
    (rw steps.1 (lost_keeps seed (reverse before.masking.slots) old keeps))

pub Masks-start : (seed : List ℕ) → Masks seed [] [] (record { last = None; erasures = 0; words = generator_at seed 0 })
Masks-start seed = record {
  masking = record { slots = []; spelled = tt; count = refl; each = λ j inside. absurd (omega arith) };
  last = refl;
  within = tt;
  erasures = refl;
  words = refl;
}
