-- An enlisting is a step that the table's rule allows.
use Rattle.std.proofs.Common.{◌≡◌, ℕ, ◌+◌, ◌^◌, ◌<◌, ◌≤◌, List, [], ◌∷◌, map, length, Some, true, refl, sym, ap, ◌∙◌, subst, arith}
use Rattle.std.specs.Prelude.{slice_get}
use Rattle.std.proofs.Math.Nat.{pow-le-pow_right}
use Rattle.std.proofs.lemmas.List.{length-map}
use mathlib.Core.Option.{some}
use lib.ListN.{get_elem?}
use lib.Seq.{map-set}
use Rattle.atomic_table.specs.Table.{takes, Allows}
use Rattle.atomic_table.proofs.Lists.{at_map}
use Rattle.playout.specs.declared.call.Call.{Call}
use Rattle.ring_core.specs.declared.views.Shape.{Shape}
use Rattle.ring_core.specs.declared.views.Pooling.{Pooling}
use Rattle.ring_core.specs.declared.views.View.{View}
use Rattle.ring_core.specs.Ring.{Ring, slot_count, Place, in_berth, StandsIn, RingRule}
use Rattle.ring_core.specs.declared.words.Berth.TheVariants.{Fresh, Out}
use Rattle.ring_core.specs.declared.words.Cell.TheVariants.{AtHome, OutWith}
use Rattle.ring_core.specs.Steps.{pool_view, caller_view, newcomer, enlist_at}
use Rattle.ring_core.specs.ListPlaces.{at_exists}
use Rattle.ring_core.specs.RuleLaws.{right_is_fresh, fresh_place}
use Rattle.ring_core.specs.RingLaws.{AllStepsKeepTheRule}
use Rattle.step_table.specs.Packed.{Kept, SeatState, pack_slot, pack_berth, home_of, Holds, HeldFit}
use Rattle.step_table.specs.Kinds.{enlist, MaySwap, told}
use Rattle.step_table.proofs.Spelling.{index_middle, set_middle}
use Rattle.step_table.proofs.Taking.{T, spelt, Goes}

goes : AllStepsKeepTheRule → (k : Shape) (s : Ring) (rule : RingRule k s) (keep : HeldFit s) (id : ℕ) (p : Pooling) (who : ℕ) → get_elem? s.views id ≡ some (pool_view k p) → slice_get p.rights who ≡ Some true → ((n : ℕ) (l : List Call) → slice_get p.lists n ≡ Some (Some l) → ⊥) → who ≤ k.filers
    → Goes k (spelt s) id (pool_view k p, []) (length (map pack_slot s.slots) + who) (pack_berth Out) (told (enlist who) (pool_view k p, []))
goes steps k s rule keep id p who at has empty low =
    let f = right_is_fresh k s rule id p who at has low in
    let cell : ℕ = f.0 in
    let place = fresh_place k s rule who cell f.1 in
    let there = at_exists s.cells cell place.1 in
    let st : StandsIn (in_berth who) there.0 = subst (λ (q : Place). StandsIn q there.0) place.0 (rule.named cell there.0 there.1).1 in
    let y : Kept = st.0 in
    let there_is : get_elem? s.cells cell ≡ some (AtHome y) = there.1 ∙ ap some st.1 in
    let rest : List ℕ = s.source ∷ s.base ∷ [] in
    let len : ℕ = length s.cells in let total : len ≡ 2 ^ k.g + k.filers + 1 = rule.sized.cells in let most : k.filers ≤ 64 = rule.sized.filers in
    let small : 2 ^ k.g ≤ 2 ^ 10 = pow-le-pow_right {n = 2} (omega arith) rule.sized.g in let below : cell < len = place.1 in (
      caller_view k (newcomer who cell),
      takes cell y,
      at_map home_of s.cells cell (AtHome y) there_is,
      (
        enlist_at k s id who cell,
        (set_middle pack_berth (map pack_slot s.slots) s.berths rest who (Fresh cell) Out f.1, sym (map-set home_of s.cells cell (OutWith id)), refl),
        (steps k s rule).enlist id who cell p at has empty f.1,
        keep,
      ),
      (cell, y, index_middle pack_berth (map pack_slot s.slots) s.berths rest who (Fresh cell) f.1, omega arith, refl),
    )

pub enlist_allowed : AllStepsKeepTheRule → (k : Shape) (slots id : ℕ) (me : SeatState) (word new who : ℕ) → MaySwap (enlist who) k me word new → Allows (Holds k) slots id me word (λ _. new) (told (enlist who) me)
enlist_allowed steps k slots id me word new who may t holds wide at small =
    let p : Pooling = may.0 in let s : Ring = holds.0 in let sp = holds.1 in
    let place : length (map pack_slot s.slots) + who ≡ slot_count k + who = ap (λ (n : ℕ). n + who) (length-map s.slots pack_slot ∙ holds.2.sized.slots) in
    let same : (spelt s, (pool_view k p, []), length (map pack_slot s.slots) + who, pack_berth Out) ≡ (t, me, word, new) =
    λ i. (record { words = sym sp.0 i; homes = sym sp.1 i; views = sym sp.2 i }, sym may.1 i, (place ∙ sym may.5) i, sym may.6 i) in
    let here : get_elem? s.views id ≡ some (pool_view k p) = ap (λ (l : List View). get_elem? l id) (sym sp.2) ∙ at ∙ ap (λ (m : SeatState). some m.0) may.1 in
    subst (λ (q : T × SeatState × ℕ × ℕ). Goes k q.0 id q.1 q.2 q.3 (told (enlist who) q.1)) same (goes steps k s holds.2 holds.3 id p who here may.2 may.3 may.4)
