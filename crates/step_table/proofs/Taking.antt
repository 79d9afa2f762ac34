-- A tick and a retire are steps that the table's rule allows.
use Rattle.std.proofs.Common.{◌≡◌, ◌≢◌, ℕ, ◌+◌, ◌%◌, ◌^◌, ◌<◌, List, [], ◌∷◌, ◌++◌, map, set, length, Some, true, refl, sym, ap, ◌∙◌, subst, arith, mod-lt}
use Rattle.std.specs.Prelude.{slice_index}
use mathlib.Core.Option.{some}
use mathlib.Core.Option as maybe
use lib.ListN.{get_elem?}
use lib.Seq.{map-set}
use Rattle.atomic_table.specs.Table.{State, Act, takes, gives, chain, Allows, Valid, stepped, carried_after}
use Rattle.atomic_table.proofs.Lists.{set_else, at_map}
use Rattle.ring_core.specs.declared.player_steps.Move.{Move}
use Rattle.ring_core.specs.declared.views.Shape.{Shape}
use Rattle.ring_core.specs.declared.views.Calling.{Calling}
use Rattle.ring_core.specs.declared.views.Role.{Role}
use Rattle.ring_core.specs.declared.views.Role.TheVariants.{Caller}
use Rattle.ring_core.specs.declared.views.View.{View}
use Rattle.ring_core.specs.Ring.{Ring, slot_count, RingRule}
use Rattle.ring_core.specs.declared.words.SlotWord.{SlotWord}
use Rattle.ring_core.specs.declared.words.Cell.{Cell}
use Rattle.ring_core.specs.declared.words.Cell.TheVariants.{AtHome, OutWith}
use Rattle.ring_core.specs.Steps.{caller_view, position_of, moved, free_word, move_at}
use Rattle.ring_core.specs.ListPlaces.{at_exists, at_one}
use Rattle.ring_core.specs.RuleLaws.{slots_positive, spare_apart, tick_number}
use Rattle.ring_core.specs.RingLaws.{AllStepsKeepTheRule, CallersAreFresh}
use Rattle.step_table.specs.Packed.{Kept, SeatState, pack_slot, pack_berth, words_of, home_of, Holds, HeldFit}
use Rattle.step_table.specs.Kinds.{move, MaySwap, AfterMove, told}
use Rattle.step_table.specs.WordLaws.{index_front, slot_small}
use Rattle.step_table.proofs.Spelling.{set_front, slot_value}

abbrev pub T : Type 0
T = State Kept View

abbrev pub spelt : Ring → T
spelt s = record { words = words_of s; homes = map home_of s.cells; views = s.views }

-- what a step owes of one table
abbrev pub Goes : Shape → T → ℕ → SeatState → ℕ → ℕ → (ℕ → SeatState → Type 0) → Type 0
Goes k t id me word new then = (w : View) × (a : Act Kept) × Valid t.homes me.1 a × Holds k (stepped t word new id me.1 w a) × then (slice_index t.words word) (w, carried_after me.1 a)

pub caller-injective : (c d : Calling) → Path Role (Caller c) (Caller d) → Path Calling c d
caller-injective c d e = cc

home_is : (x y : Kept) → Path Cell (AtHome x) (AtHome y) → x ≡ y
home_is x y e = cc

-- the cell of a filled word has a frame
frame_in : {k : Shape} (s : Ring) (rule : RingRule k s) (i : ℕ) (w : SlotWord) (y : Kept) → get_elem? s.slots i ≡ some w → get_elem? s.cells w.cell ≡ some (AtHome y) → w.filled ≡ true → (f : List ℕ) × (y ≡ Some f)
frame_in s rule i w y there holds full = let f = (rule.slot i w there).filled full in (f.0, home_is y (Some f.0) (at_one s.cells w.cell (AtHome y) (AtHome (Some f.0)) holds f.2))

-- a caller's seat with its spare
abbrev pub with_spare : Shape → Calling → Kept → SeatState
with_spare k c z = (caller_view k c, (c.spare, z) ∷ [])

goes : AllStepsKeepTheRule → CallersAreFresh → (k : Shape) (s : Ring) (rule : RingRule k s) (fits : HeldFit s) (id : ℕ) (c : Calling) (v : Move) (z : Kept) → get_elem? s.views id ≡ some (caller_view k c) → c.who ≡ k.filers → position_of c < 2 ^ 33
    → Goes k (spelt s) id (with_spare k c z) (position_of c % slot_count k) (pack_slot (free_word (position_of c + slot_count k) c.spare)) (told (move v) (with_spare k c z))
goes steps fresh k s rule fits id c v z at player below =
    let R : ℕ = slot_count k in let p : ℕ = position_of c in let i : ℕ = p % R in
    let n : ℕ = length s.slots in let wide : n ≡ R = rule.sized.slots in let near : i < R = mod-lt p (slots_positive k) in
    let there = at_exists s.slots i (omega arith) in
    let w : SlotWord = there.0 in
    let value = slot_value k s rule i w there.1 in
    let y : Kept = value.0 in
    let word : SlotWord = free_word (p + R) c.spare in
    let u : View = caller_view k (moved c v w y) in
    let tells : AfterMove k c v (slice_index (words_of s) i) (u, (w.cell, y) ∷ []) = (w, y, index_front pack_slot s.slots (map pack_berth s.berths ++ s.source ∷ s.base ∷ []) i w there.1, slot_small k s rule i w there.1, refl, λ f has. (fresh k s rule id c at).played w y f player below there.1 value.1 has, tick_number k s rule id c w at player there.1, λ full. frame_in s rule i w y there.1 value.1 full) in
    let apart : c.spare ≢ w.cell = spare_apart k s rule i id w c there.1 at in (
      u,
      chain gives (takes w.cell y),
      (tt, set_else (map home_of s.cells) c.spare w.cell (some z) (λ e. apart (sym e)) ∙ at_map home_of s.cells w.cell (AtHome y) value.1),
      (
        move_at k s id c v w y z,
        (
          set_front pack_slot s.slots (map pack_berth s.berths ++ s.source ∷ s.base ∷ []) i w word there.1,
          sym (map-set home_of (set s.cells c.spare (AtHome z)) w.cell (OutWith id) ∙ ap (λ (l : List (maybe.Option Kept)). set l w.cell maybe.none) (map-set home_of s.cells c.spare (AtHome z))),
          refl,
        ),
        (steps k s rule).move v id c w y z (at, player) below there.1 value.1,
        fits,
      ),
      λ d same. subst (λ (e : Calling). AfterMove k e v (slice_index (words_of s) i) (u, (w.cell, y) ∷ []))
          (caller-injective c d same) tells,
    )

pub move_allowed : AllStepsKeepTheRule → CallersAreFresh → (k : Shape) (slots id : ℕ) (me : SeatState) (word new : ℕ) (v : Move) → MaySwap (move v) k me word new → Allows (Holds k) slots id me word (λ _. new) (told (move v) me)
move_allowed steps fresh k slots id me word new v may t holds wide at small =
    let c : Calling = may.0 in let z : Kept = may.1 in let s : Ring = holds.0 in let sp = holds.1 in
    let same : (spelt s, with_spare k c z, position_of c % slot_count k, pack_slot (free_word (position_of c + slot_count k) c.spare)) ≡ (t, me, word, new) =
    λ i. (record { words = sym sp.0 i; homes = sym sp.1 i; views = sym sp.2 i }, sym may.2 i, sym may.5 i, sym may.6 i) in
    let here : get_elem? s.views id ≡ some (caller_view k c) = ap (λ (l : List View). get_elem? l id) (sym sp.2) ∙ at ∙ ap (λ (m : SeatState). some m.0) may.2 in
    subst (λ (q : T × SeatState × ℕ × ℕ). Goes k q.0 id q.1 q.2 q.3 (told (move v) q.1)) same (goes steps fresh k s holds.2 holds.3 id c v z here may.3 may.4)
