-- A load and a publish are steps that the table's rule allows.
use Rattle.std.proofs.Common.{◌≡◌, ◌≢◌, inl, inr, ℕ, ◌+◌, ◌*◌, ◌%◌, ◌<◌, ◌≤◌, eqb, List, [], ◌∷◌, ◌++◌, map, set, length, Option, Some, Bool, true, false, refl, sym, ap, ◌∙◌, subst, arith, mod-lt}
use Rattle.std.specs.Prelude.{slice_index}
use mathlib.Core.Option.{some}
use mathlib.Core.Option as maybe
use lib.ListN.{get_elem?}
use lib.Seq.{map-set}
use prog.Atomic.{either}
use Rattle.atomic_table.specs.Table.{keeps, takes, gives, chain, Allows}
use Rattle.atomic_table.proofs.Lists.{set_else, at_map, exchanged}
use Rattle.ring_core.specs.declared.views.Shape.{Shape}
use Rattle.ring_core.specs.declared.views.Flight.{Flight}
use Rattle.ring_core.specs.declared.views.Calling.{Calling}
use Rattle.ring_core.specs.declared.views.Role.{Role}
use Rattle.ring_core.specs.declared.views.Role.TheVariants.{Caller}
use Rattle.ring_core.specs.declared.views.View.{View}
use Rattle.ring_core.specs.Ring.{Ring, slot_count, FlightFits, RingRule}
use Rattle.ring_core.specs.declared.words.SlotWord.{SlotWord}
use Rattle.ring_core.specs.declared.words.Cell.TheVariants.{AtHome, OutWith}
use Rattle.ring_core.specs.Steps.{caller_view, free_word, full_word, loaded, published, publish_at, view_at}
use Rattle.ring_core.specs.ListPlaces.{at_exists, at_one}
use Rattle.ring_core.specs.RuleLaws.{slots_positive, spare_apart}
use Rattle.ring_core.specs.RingLaws.{AllStepsKeepTheRule, CallersAreFresh, SlotsAreNear}
use Rattle.step_table.proofs.Telling.{tells_of}
use Rattle.step_table.specs.Packed.{Kept, SeatState, pack_slot, filled_bit, pack_berth, words_of, home_of, Holds, HeldFit, Fits}
use Rattle.step_table.specs.Kinds.{load, publish, MayLoad, MayExchange, AfterLoad, AfterPublish, told}
use Rattle.step_table.specs.WordLaws.{index_front, slot_small}
use Rattle.step_table.proofs.Spelling.{word_stays, set_front, slot_value}
use Rattle.step_table.proofs.Taking.{T, spelt, Goes, caller-injective}
use Rattle.step_table.proofs.Reading.{reads, read_allowed}

bit_by : (a b : Bool) (c d n o : ℕ) → n < 281474976710656 → o < 281474976710656 → c < 32768 → d < 32768 → filled_bit a + c * 281474976710656 + n ≡ filled_bit b + d * 281474976710656 + o → Path Bool a b × (c ≡ d) × (n ≡ o)
bit_by true true c d n o h i j k e = (refl, omega arith, omega arith)
bit_by false false c d n o h i j k e = (refl, omega arith, omega arith)
bit_by true false c d n o h i j k e = absurd (omega arith)
bit_by false true c d n o h i j k e = absurd (omega arith)

-- a word says which it is
pack-injective : (w x : SlotWord) → Fits w → Fits x → pack_slot w ≡ pack_slot x → Path SlotWord w x
pack-injective w x fw fx e =
    let same = bit_by w.filled x.filled w.cell x.cell w.number x.number fw.0 fx.0 fw.1 fx.1 e in
    λ i. record { number = same.2 i; filled = same.0 i; cell = same.1 i }

pub load_allowed : AllStepsKeepTheRule → CallersAreFresh → SlotsAreNear → (k : Shape) (slots id : ℕ) (me : SeatState) (word n : ℕ) (f : List ℕ) → MayLoad (load n f) k me word → Allows (Holds k) slots id me word (λ x. x) (told (load n f) me)
load_allowed steps fresh bounded k slots id me word n f may =
    let c : Calling = may.0 in let held : List (ℕ × Kept) = may.1 in
    read_allowed (load n f) k slots id me word (n % slot_count k) c held may.2 may.5 (λ s rule keep at.
    reads k s rule keep id c held n (λ w. loaded c w n f) (λ e found now. AfterLoad k e n f held found now)
    (λ w there. (steps k s rule).load id n c w f at may.3 there)
    (λ w there found shows small. (w, shows, small, refl, tells_of fresh bounded k s rule id c n w at there)))

flight_word : (R : ℕ) (slots : List SlotWord) (f : Flight) (w : SlotWord) → FlightFits R slots (Some f) → get_elem? slots (f.number % R) ≡ some w → (f.number ≤ w.number) × (w.number ≡ f.number → w.filled ≡ false → w.cell ≡ f.cell)
flight_word R slots f w fits at = subst (λ (x : SlotWord). (f.number ≤ x.number) × (x.number ≡ f.number → x.filled ≡ false → x.cell ≡ f.cell)) (at_one slots (f.number % R) fits.0 w fits.1 at) (fits.2, fits.3)

-- at the word as it was loaded, of a filer in flight
free_is : (w : SlotWord) (f : Flight) → w.number ≡ f.number → w.filled ≡ false → w.cell ≡ f.cell → Path SlotWord w (free_word f.number f.cell)
free_is w f a b c = λ i. record { number = a i; filled = b i; cell = c i }

publish_goes : AllStepsKeepTheRule → CallersAreFresh → SlotsAreNear → (k : Shape) (s : Ring) (rule : RingRule k s) (keep : HeldFit s) (id : ℕ) (c : Calling) (f : Flight) → get_elem? s.views id ≡ some (caller_view k c) → c.who < k.filers → c.flight ≡ Some f → Fits (free_word f.number f.cell)
    → (old new : ℕ) → old ≡ pack_slot (free_word f.number f.cell) → new ≡ pack_slot (full_word f.number c.spare)
    → Goes k (spelt s) id (caller_view k c, (c.spare, Some f.frame) ∷ []) (f.number % slot_count k) (either (eqb (slice_index (words_of s) (f.number % slot_count k)) old) new (slice_index (words_of s) (f.number % slot_count k)))
    (told publish (caller_view k c, (c.spare, Some f.frame) ∷ []))
publish_goes steps fresh bounded k s rule keep id c f at filer flying small old new was more =
    let R : ℕ = slot_count k in let i : ℕ = f.number % R in
    let len : ℕ = length s.slots in let wide : len ≡ R = rule.sized.slots in let near : i < R = mod-lt f.number (slots_positive k) in
    let there = at_exists s.slots i (omega arith) in
    let w : SlotWord = there.0 in
    let r : ℕ = slice_index (words_of s) i in
    let rest : List ℕ = map pack_berth s.berths ++ s.source ∷ s.base ∷ [] in
    let shows : r ≡ pack_slot w = index_front pack_slot s.slots rest i w there.1 in
    let fits : Fits w = slot_small k s rule i w there.1 in
    let role = rule.role id (caller_view k c) at in
    let flight = flight_word R s.slots f w (subst (λ (o : Option Flight). FlightFits R s.slots o) flying role.2) there.1 in
    let held : List (ℕ × Kept) = (c.spare, Some f.frame) ∷ [] in
    let me : SeatState = (caller_view k c, held) in
    exchanged r old new (λ (x : ℕ). Goes k (spelt s) id me i x (told publish me))
    (λ hit.
    let same : Path SlotWord w (free_word f.number f.cell) = pack-injective w (free_word f.number f.cell) fits small (sym shows ∙ (hit ∙ was)) in
    let found : get_elem? s.slots i ≡ some (free_word f.number f.cell) = there.1 ∙ ap some same in
    let value = slot_value k s rule i (free_word f.number f.cell) found in
    let y : Kept = value.0 in
    let d : Calling = published c f.number f.frame f.cell in
    let u : View = caller_view k d in
    let apart : c.spare ≢ f.cell = spare_apart k s rule i id (free_word f.number f.cell) c found at in
    let tells : AfterPublish k c f held r (u, (f.cell, y) ∷ []) = inl (hit ∙ was, (y, refl)) in (
      u,
      chain gives (takes f.cell y),
      (tt, set_else (map home_of s.cells) c.spare f.cell (some (Some f.frame)) (λ e. apart (sym e)) ∙ at_map home_of s.cells f.cell (AtHome y) value.1),
      (
        publish_at k s id c f,
        (
          ap (set (words_of s) i) more ∙ set_front pack_slot s.slots rest i w (full_word f.number c.spare) there.1,
          sym (map-set home_of (set s.cells c.spare (AtHome (Some f.frame))) f.cell (OutWith id) ∙ ap (λ (l : List (maybe.Option Kept)). set l f.cell maybe.none) (map-set home_of s.cells c.spare (AtHome (Some f.frame)))),
          refl,
        ),
        (steps k s rule).publish id c f y at filer found value.1,
        keep,
      ),
      λ e g is flies. subst (λ (q : Calling × Flight). AfterPublish k q.0 q.1 held r (u, (f.cell, y) ∷ [])) (both c e f g is (sym flying) flies) tells,
    ))
    (λ miss.
    let d : Calling = loaded c w f.number f.frame in
    let u : View = caller_view k d in
    let full : w.number ≡ f.number → w.filled ≡ true = λ e. filled_if w.filled refl (λ free. miss (shows ∙ (ap pack_slot (free_is w f e free (flight.1 e free)) ∙ sym was))) in
    let tells : AfterPublish k c f held r (u, held) = inr ((λ e. miss (e ∙ sym was)), (w, shows, fits, flight.0, full, refl, tells_of fresh bounded k s rule id c f.number w at there.1)) in (
      u,
      keeps,
      tt,
      (view_at k s id d, (word_stays s i w there.1, refl, refl), (steps k s rule).load id f.number c w f.frame at filer there.1, keep),
      λ e g is flies. subst (λ (q : Calling × Flight). AfterPublish k q.0 q.1 held r (u, held)) (both c e f g is (sym flying) flies) tells,
    ))
  where
    some_flight : (f g : Flight) → Path (Option Flight) (Some f) (Some g) → Path Flight f g
    some_flight f g e = cc

    both : (c e : Calling) (f g : Flight) → Path Role (Caller c) (Caller e) → Path (Option Flight) (Some f) c.flight → Path (Option Flight) e.flight (Some g) → Path (Calling × Flight) (c, f) (e, g)
    both c e f g is p q = let same = caller-injective c e is in let h = some_flight f g (p ∙ (ap (λ (z : Calling). z.flight) same ∙ q)) in λ i. (same i, h i)

    filled_if : {w : Bool} (b : Bool) → w ≡ b → (w ≡ false → ⊥) → w ≡ true
    filled_if true e n = e
    filled_if false e n = absurd (n e)

pub publish_allowed : AllStepsKeepTheRule → CallersAreFresh → SlotsAreNear → (k : Shape) (slots id : ℕ) (me : SeatState) (word old new : ℕ) → MayExchange publish k me word old new → Allows (Holds k) slots id me word (λ x. either (eqb x old) new x) (told publish me)
publish_allowed steps fresh bounded k slots id me word old new may t holds wide at small =
    let c : Calling = may.0 in let f : Flight = may.1 in let s : Ring = holds.0 in let sp = holds.1 in
    let mine : SeatState = (caller_view k c, (c.spare, Some f.frame) ∷ []) in
    let i : ℕ = f.number % slot_count k in
    let same : (spelt s, mine, i) ≡ (t, me, word) = λ i. (record { words = sym sp.0 i; homes = sym sp.1 i; views = sym sp.2 i }, sym may.2 i, sym may.6 i) in
    let here : get_elem? s.views id ≡ some (caller_view k c) = ap (λ (l : List View). get_elem? l id) (sym sp.2) ∙ at ∙ ap (λ (m : SeatState). some m.0) may.2 in
    subst (λ (q : T × SeatState × ℕ). Goes k q.0 id q.1 q.2 (either (eqb (slice_index q.0.words q.2) old) new (slice_index q.0.words q.2)) (told publish q.1)) same (publish_goes steps fresh bounded k s holds.2 holds.3 id c f here may.3 may.4 may.5 old new may.7 may.8)
