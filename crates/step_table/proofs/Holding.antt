-- Steps on the source word and on the base word are steps that the table's rule allows.
use Rattle.std.proofs.Common.{◌≡◌, ◌≢◌, inl, inr, ℕ, ◌+◌, ◌<◌, ◌^◌, eqb, List, set, Option, Some, None, refl, sym, ap, ◌∙◌, subst, arith}
use Rattle.std.specs.Prelude.{slice_index}
use mathlib.Core.Option.{some}
use lib.ListN.{get_elem?}
use prog.Atomic.{either}
use Rattle.atomic_table.specs.Table.{keeps, Allows}
use Rattle.atomic_table.proofs.Lists.{exchanged}
use Rattle.ring_core.specs.declared.views.Shape.{Shape}
use Rattle.ring_core.specs.declared.views.Calling.{Calling}
use Rattle.ring_core.specs.declared.views.View.{View}
use Rattle.playout.specs.Machine.{Machine, opening_machine, held_or}
use Rattle.playout.specs.History.{after_all}
use Rattle.ring_core.specs.Ring.{Ring, RingRule, word_of}
use Rattle.ring_core.specs.Core.{held_in}
use Rattle.ring_core.specs.Steps.{caller_view, sourced, source_at, based, base_at, peeked, view_at}
use Rattle.ring_core.specs.HeldLaws.{held_is}
use Rattle.ring_core.specs.RingLaws.{AllStepsKeepTheRule, CallersAreFresh}
use Rattle.step_table.specs.Packed.{Kept, SeatState, words_of, Holds, HeldFit}
use Rattle.step_table.specs.Kinds.{source, base, peek, MayLoad, MayExchange, IsHeldWord, AfterSource, AfterBase, AfterPeek, told}
use Rattle.step_table.proofs.Spelling.{held_place, held_read, held_set, source_at_place, base_at_place}
use Rattle.step_table.proofs.Taking.{T, spelt, Goes, caller-injective}

held_word : (o : Option ℕ) (word : ℕ) → word ≡ word_of o → word < 2 ^ 33 → IsHeldWord word
held_word None word is low = inl is
held_word (Some x) word is low = inr (omega arith, low)

-- a held word that is not 0 has a value
some_held : (o : Option ℕ) (word : ℕ) → word ≡ word_of o → word ≢ 0 → (x : ℕ) × (o ≡ Some x)
some_held None word is differs = absurd (differs is)
some_held (Some x) word is differs = (x, refl)

source_stays : (s : Ring) → set (words_of s) (held_place s 0) (slice_index (words_of s) (held_place s 0)) ≡ words_of s
source_stays s = ap (set (words_of s) (held_place s 0)) (held_read s 0) ∙ held_set s 0 s.source

base_stays : (s : Ring) → set (words_of s) (held_place s 1) (slice_index (words_of s) (held_place s 1)) ≡ words_of s
base_stays s = ap (set (words_of s) (held_place s 1)) (held_read s 1) ∙ held_set s 1 s.base

source_goes : AllStepsKeepTheRule → CallersAreFresh → (k : Shape) (s : Ring) (rule : RingRule k s) (keep : HeldFit s) (id : ℕ) (c : Calling) (held : List (ℕ × Kept)) (x old new : ℕ) → get_elem? s.views id ≡ some (caller_view k c) → c.who < k.filers → x < 2 ^ 32
    → old ≡ 0 → new ≡ word_of (Some x)
    → Goes k (spelt s) id (caller_view k c, held) (held_place s 0) (either (eqb (slice_index (words_of s) (held_place s 0)) old) new (slice_index (words_of s) (held_place s 0))) (told (source x) (caller_view k c, held))
source_goes steps fresh k s rule keep id c held x old new at filer small was more =
    let r : ℕ = slice_index (words_of s) (held_place s 0) in
    let shows : r ≡ s.source = held_read s 0 in
    let m : Machine = after_all opening_machine rule.history in
    let me : SeatState = (caller_view k c, held) in
    let low : r < 2 ^ 33 = subst (λ (n : ℕ). n < 2 ^ 33) (sym shows) keep.0 in
    let is_word : IsHeldWord r = held_word m.source r (shows ∙ rule.source) low in
    let knows : (y : ℕ) → c.known.source ≡ Some y → r ≡ word_of (Some y) = λ y e. shows ∙ (fresh k s rule id c at).source y e in
    exchanged r old new (λ (n : ℕ). Goes k (spelt s) id me (held_place s 0) n (told (source x) me))
    (λ hit.
    let none : r ≡ 0 = hit ∙ was in
    let u : View = caller_view k (sourced c x x) in
    let tells : AfterSource k c x held r (u, held) = (is_word, ap (λ (n : ℕ). (caller_view k (sourced c x (held_or (held_in n) x)), held)) (sym none), knows) in (
      u,
      keeps,
      tt,
      (source_at k s id c x, (ap (set (words_of s) (held_place s 0)) more ∙ held_set s 0 (word_of (Some x)), refl, refl), (steps k s rule).source id x c at filer (sym shows ∙ none), (let h : 4294967296 + x < 2 ^ 33 = omega arith in h, keep.1)),
      λ d same. subst (λ (e : Calling). AfterSource k e x held r (u, held)) (caller-injective c d same) tells,
    ))
    (λ miss.
    let v = some_held m.source r (shows ∙ rule.source) (λ e. miss (e ∙ sym was)) in
    let holds : s.source ≡ word_of (Some v.0) = rule.source ∙ ap word_of v.1 in
    let value : held_in r ≡ Some v.0 = held_is m.source r (shows ∙ rule.source) ∙ v.1 in
    let u : View = caller_view k (sourced c x v.0) in
    let tells : AfterSource k c x held r (u, held) = (is_word, ap (λ (o : Option ℕ). (caller_view k (sourced c x (held_or o x)), held)) (sym value), knows) in (
      u,
      keeps,
      tt,
      (view_at k s id (sourced c x v.0), (source_stays s, refl, refl), (steps k s rule).source_again id x v.0 c at filer holds, keep),
      λ d same. subst (λ (e : Calling). AfterSource k e x held r (u, held)) (caller-injective c d same) tells,
    ))

base_goes : AllStepsKeepTheRule → CallersAreFresh → (k : Shape) (s : Ring) (rule : RingRule k s) (keep : HeldFit s) (id : ℕ) (c : Calling) (held : List (ℕ × Kept)) (x old new : ℕ) → get_elem? s.views id ≡ some (caller_view k c) → c.who < k.filers → x < 2 ^ 32
    → old ≡ 0 → new ≡ word_of (Some x)
    → Goes k (spelt s) id (caller_view k c, held) (held_place s 1) (either (eqb (slice_index (words_of s) (held_place s 1)) old) new (slice_index (words_of s) (held_place s 1))) (told (base x) (caller_view k c, held))
base_goes steps fresh k s rule keep id c held x old new at filer small was more =
    let r : ℕ = slice_index (words_of s) (held_place s 1) in
    let shows : r ≡ s.base = held_read s 1 in
    let m : Machine = after_all opening_machine rule.history in
    let me : SeatState = (caller_view k c, held) in
    let low : r < 2 ^ 33 = subst (λ (n : ℕ). n < 2 ^ 33) (sym shows) keep.1 in
    let is_word : IsHeldWord r = held_word m.base r (shows ∙ rule.base) low in
    let knows : (y : ℕ) → c.known.base ≡ Some y → r ≡ word_of (Some y) = λ y e. shows ∙ (fresh k s rule id c at).base y e in
    exchanged r old new (λ (n : ℕ). Goes k (spelt s) id me (held_place s 1) n (told (base x) me))
    (λ hit.
    let none : r ≡ 0 = hit ∙ was in
    let u : View = caller_view k (based c x x) in
    let tells : AfterBase k c x held r (u, held) = (is_word, ap (λ (n : ℕ). (caller_view k (based c x (held_or (held_in n) x)), held)) (sym none), knows) in (
      u,
      keeps,
      tt,
      (base_at k s id c x, (ap (set (words_of s) (held_place s 1)) more ∙ held_set s 1 (word_of (Some x)), refl, refl), (steps k s rule).base id x c at filer (sym shows ∙ none), (keep.0, let h : 4294967296 + x < 2 ^ 33 = omega arith in h)),
      λ d same. subst (λ (e : Calling). AfterBase k e x held r (u, held)) (caller-injective c d same) tells,
    ))
    (λ miss.
    let v = some_held m.base r (shows ∙ rule.base) (λ e. miss (e ∙ sym was)) in
    let holds : s.base ≡ word_of (Some v.0) = rule.base ∙ ap word_of v.1 in
    let value : held_in r ≡ Some v.0 = held_is m.base r (shows ∙ rule.base) ∙ v.1 in
    let u : View = caller_view k (based c x v.0) in
    let tells : AfterBase k c x held r (u, held) = (is_word, ap (λ (o : Option ℕ). (caller_view k (based c x (held_or o x)), held)) (sym value), knows) in (
      u,
      keeps,
      tt,
      (view_at k s id (based c x v.0), (base_stays s, refl, refl), (steps k s rule).base_again id x v.0 c at filer holds, keep),
      λ d same. subst (λ (e : Calling). AfterBase k e x held r (u, held)) (caller-injective c d same) tells,
    ))

peek_goes : AllStepsKeepTheRule → CallersAreFresh → (k : Shape) (s : Ring) (rule : RingRule k s) (keep : HeldFit s) (id : ℕ) (c : Calling) (held : List (ℕ × Kept)) → get_elem? s.views id ≡ some (caller_view k c) → c.who ≡ k.filers
    → Goes k (spelt s) id (caller_view k c, held) (held_place s 1) (slice_index (words_of s) (held_place s 1)) (told peek (caller_view k c, held))
peek_goes steps fresh k s rule keep id c held at player =
    let r : ℕ = slice_index (words_of s) (held_place s 1) in
    let shows : r ≡ s.base = held_read s 1 in
    let m : Machine = after_all opening_machine rule.history in
    let low : r < 2 ^ 33 = subst (λ (n : ℕ). n < 2 ^ 33) (sym shows) keep.1 in
    let u : View = caller_view k (peeked c (held_in s.base)) in
    let tells : AfterPeek k c held r (u, held) =
    (held_word m.base r (shows ∙ rule.base) low, ap (λ (n : ℕ). (caller_view k (peeked c (held_in n)), held)) (sym shows), λ y e. shows ∙ (fresh k s rule id c at).base y e) in (
      u,
      keeps,
      tt,
      (view_at k s id (peeked c (held_in s.base)), (base_stays s, refl, refl), (steps k s rule).peek id c at player, keep),
      λ d same. subst (λ (e : Calling). AfterPeek k e held r (u, held)) (caller-injective c d same) tells,
    )

pub source_allowed : AllStepsKeepTheRule → CallersAreFresh → (k : Shape) (slots id : ℕ) (me : SeatState) (word old new x : ℕ) → MayExchange (source x) k me word old new → Allows (Holds k) slots id me word (λ n. either (eqb n old) new n) (told (source x) me)
source_allowed steps fresh k slots id me word old new x may t holds wide at small =
    let c : Calling = may.0 in let held : List (ℕ × Kept) = may.1 in let s : Ring = holds.0 in let sp = holds.1 in
    let mine : SeatState = (caller_view k c, held) in
    let place : held_place s 0 ≡ word = source_at_place k s holds.2 ∙ sym may.6 in
    let same : (spelt s, mine, held_place s 0) ≡ (t, me, word) = λ i. (record { words = sym sp.0 i; homes = sym sp.1 i; views = sym sp.2 i }, sym may.2 i, place i) in
    let here : get_elem? s.views id ≡ some (caller_view k c) = ap (λ (l : List View). get_elem? l id) (sym sp.2) ∙ at ∙ ap (λ (m : SeatState). some m.0) may.2 in
    subst (λ (q : T × SeatState × ℕ). Goes k q.0 id q.1 q.2 (either (eqb (slice_index q.0.words q.2) old) new (slice_index q.0.words q.2)) (told (source x) q.1)) same (source_goes steps fresh k s holds.2 holds.3 id c held x old new here may.3 may.5 may.7 may.8)

pub base_allowed : AllStepsKeepTheRule → CallersAreFresh → (k : Shape) (slots id : ℕ) (me : SeatState) (word old new x : ℕ) → MayExchange (base x) k me word old new → Allows (Holds k) slots id me word (λ n. either (eqb n old) new n) (told (base x) me)
base_allowed steps fresh k slots id me word old new x may t holds wide at small =
    let c : Calling = may.0 in let held : List (ℕ × Kept) = may.1 in let s : Ring = holds.0 in let sp = holds.1 in
    let mine : SeatState = (caller_view k c, held) in
    let place : held_place s 1 ≡ word = base_at_place k s holds.2 ∙ sym may.6 in
    let same : (spelt s, mine, held_place s 1) ≡ (t, me, word) = λ i. (record { words = sym sp.0 i; homes = sym sp.1 i; views = sym sp.2 i }, sym may.2 i, place i) in
    let here : get_elem? s.views id ≡ some (caller_view k c) = ap (λ (l : List View). get_elem? l id) (sym sp.2) ∙ at ∙ ap (λ (m : SeatState). some m.0) may.2 in
    subst (λ (q : T × SeatState × ℕ). Goes k q.0 id q.1 q.2 (either (eqb (slice_index q.0.words q.2) old) new (slice_index q.0.words q.2)) (told (base x) q.1)) same (base_goes steps fresh k s holds.2 holds.3 id c held x old new here may.3 may.5 may.7 may.8)

pub peek_allowed : AllStepsKeepTheRule → CallersAreFresh → (k : Shape) (slots id : ℕ) (me : SeatState) (word : ℕ) → MayLoad peek k me word → Allows (Holds k) slots id me word (λ n. n) (told peek me)
peek_allowed steps fresh k slots id me word may t holds wide at small =
    let c : Calling = may.0 in let held : List (ℕ × Kept) = may.1 in let s : Ring = holds.0 in let sp = holds.1 in
    let mine : SeatState = (caller_view k c, held) in
    let place : held_place s 1 ≡ word = base_at_place k s holds.2 ∙ sym may.4 in
    let same : (spelt s, mine, held_place s 1) ≡ (t, me, word) = λ i. (record { words = sym sp.0 i; homes = sym sp.1 i; views = sym sp.2 i }, sym may.2 i, place i) in
    let here : get_elem? s.views id ≡ some (caller_view k c) = ap (λ (l : List View). get_elem? l id) (sym sp.2) ∙ at ∙ ap (λ (m : SeatState). some m.0) may.2 in
    subst (λ (q : T × SeatState × ℕ). Goes k q.0 id q.1 q.2 (slice_index q.0.words q.2) (told peek q.1)) same (peek_goes steps fresh k s holds.2 holds.3 id c held here may.3)
