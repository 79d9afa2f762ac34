-- Loads of a slot's word are steps that the table's rule allows.
use Rattle.std.proofs.Common.{◌≡◌, ℕ, ◌%◌, ◌<◌, List, [], ◌∷◌, ◌++◌, map, length, refl, sym, ap, ◌∙◌, subst, arith, mod-lt}
use Rattle.std.specs.Prelude.{slice_index}
use mathlib.Core.Option.{some}
use lib.ListN.{get_elem?}
use Rattle.atomic_table.specs.Table.{keeps, Allows}
use Rattle.ring_core.specs.declared.views.Shape.{Shape}
use Rattle.ring_core.specs.declared.views.Calling.{Calling}
use Rattle.ring_core.specs.declared.views.Role.{Role}
use Rattle.ring_core.specs.declared.views.Role.TheVariants.{Caller}
use Rattle.ring_core.specs.declared.views.View.{View}
use Rattle.ring_core.specs.declared.words.SlotWord.{SlotWord}
use Rattle.ring_core.specs.Ring.{Ring, slot_count, RingRule}
use Rattle.ring_core.specs.Steps.{caller_view, view_at}
use Rattle.ring_core.specs.ListPlaces.{at_exists}
use Rattle.ring_core.specs.RuleLaws.{slots_positive}
use Rattle.step_table.specs.Packed.{Kept, SeatState, pack_slot, pack_berth, words_of, Holds, HeldFit, Fits}
use Rattle.step_table.specs.Kinds.{StepKind, told}
use Rattle.step_table.specs.WordLaws.{index_front, slot_small}
use Rattle.step_table.proofs.Spelling.{word_stays}
use Rattle.step_table.proofs.Taking.{T, spelt, Goes, caller-injective}

-- a load of the word of a number's slot, after which the caller c is d of that word
pub reads : (k : Shape) (s : Ring) (rule : RingRule k s) (keep : HeldFit s) (id : ℕ) (c : Calling) (held : List (ℕ × Kept)) (n : ℕ) (d : SlotWord → Calling) (After : Calling → ℕ → SeatState → Type 0)
    → ((w : SlotWord) → get_elem? s.slots (n % slot_count k) ≡ some w → RingRule k (view_at k s id (d w)))
    → ((w : SlotWord) → get_elem? s.slots (n % slot_count k) ≡ some w → (found : ℕ) → found ≡ pack_slot w → Fits w → After c found (caller_view k (d w), held))
    → Goes k (spelt s) id (caller_view k c, held) (n % slot_count k) (slice_index (words_of s) (n % slot_count k)) (λ found now. (e : Calling) → Path Role (Caller c) (Caller e) → After e found now)
reads k s rule keep id c held n d After kept tells =
    let R : ℕ = slot_count k in let i : ℕ = n % R in
    let len : ℕ = length s.slots in let wide : len ≡ R = rule.sized.slots in let near : i < R = mod-lt n (slots_positive k) in
    let there = at_exists s.slots i (omega arith) in
    let w : SlotWord = there.0 in
    let r : ℕ = slice_index (words_of s) i in
    let u : View = caller_view k (d w) in
    let tell : After c r (u, held) = tells w there.1 r (index_front pack_slot s.slots (map pack_berth s.berths ++ s.source ∷ s.base ∷ []) i w there.1) (slot_small k s rule i w there.1) in (
      u,
      keeps,
      tt,
      (view_at k s id (d w), (word_stays s i w there.1, refl, refl), kept w there.1, keep),
      λ e same. subst (λ (f : Calling). After f r (u, held)) (caller-injective c e same) tell,
    )

-- what holds of each ring that meets the rule holds of the table
pub read_allowed : (m : StepKind) (k : Shape) (slots id : ℕ) (me : SeatState) (word i : ℕ) (c : Calling) (held : List (ℕ × Kept)) → me ≡ (caller_view k c, held) → word ≡ i
    → ((s : Ring) → RingRule k s → HeldFit s → get_elem? s.views id ≡ some (caller_view k c) → Goes k (spelt s) id (caller_view k c, held) i (slice_index (words_of s) i) (told m (caller_view k c, held)))
    → Allows (Holds k) slots id me word (λ x. x) (told m me)
read_allowed m k slots id me word i c held is place goes t holds wide at small =
    let s : Ring = holds.0 in let sp = holds.1 in
    let mine : SeatState = (caller_view k c, held) in
    let same : (spelt s, mine, i) ≡ (t, me, word) = λ j. (record { words = sym sp.0 j; homes = sym sp.1 j; views = sym sp.2 j }, sym is j, sym place j) in
    let here : get_elem? s.views id ≡ some (caller_view k c) = ap (λ (l : List View). get_elem? l id) (sym sp.2) ∙ at ∙ ap (λ (x : SeatState). some x.0) is in
    subst (λ (q : T × SeatState × ℕ). Goes k q.0 id q.1 q.2 (slice_index q.0.words q.2) (told m q.1)) same (goes s holds.2 holds.3 here)
