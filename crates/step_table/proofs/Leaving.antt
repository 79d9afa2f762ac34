-- A leaving is a step that the table's rule allows.
use Rattle.std.proofs.Common.{◌≡◌, ℕ, ◌+◌, List, [], ◌∷◌, map, length, refl, sym, ap, ◌∙◌, subst}
use Rattle.std.proofs.lemmas.List.{length-map}
use mathlib.Core.Option.{some}
use lib.ListN.{get_elem?}
use lib.Seq.{map-set}
use Rattle.atomic_table.specs.Table.{gives, Allows}
use Rattle.ring_core.specs.declared.views.Shape.{Shape}
use Rattle.ring_core.specs.declared.views.Calling.{Calling}
use Rattle.ring_core.specs.declared.views.View.{View}
use Rattle.ring_core.specs.Ring.{Ring, slot_count, RingRule}
use Rattle.ring_core.specs.declared.words.Berth.TheVariants.{Out, Home}
use Rattle.ring_core.specs.declared.words.Cell.TheVariants.{AtHome}
use Rattle.ring_core.specs.Steps.{caller_view, departed_view, leave_at}
use Rattle.ring_core.specs.RuleLaws.{caller_is_out}
use Rattle.ring_core.specs.RingLaws.{AllStepsKeepTheRule}
use Rattle.step_table.specs.Packed.{Kept, SeatState, pack_slot, pack_berth, home_of, Holds, HeldFit}
use Rattle.step_table.specs.Kinds.{leave, MaySwap, told}
use Rattle.step_table.proofs.Spelling.{set_middle}
use Rattle.step_table.proofs.Taking.{T, spelt, Goes, with_spare, caller-injective}

goes : AllStepsKeepTheRule → (k : Shape) (s : Ring) (rule : RingRule k s) (keep : HeldFit s) (id : ℕ) (c : Calling) (z : Kept) → get_elem? s.views id ≡ some (caller_view k c)
    → Goes k (spelt s) id (with_spare k c z) (length (map pack_slot s.slots) + c.who) (pack_berth (Home c.spare)) (told leave (with_spare k c z))
goes steps k s rule keep id c z at =
    let rest : List ℕ = s.source ∷ s.base ∷ [] in (
      departed_view k c,
      gives,
      tt,
      (
        leave_at k s id c z,
        (set_middle pack_berth (map pack_slot s.slots) s.berths rest c.who Out (Home c.spare) (caller_is_out k s rule id c at), sym (map-set home_of s.cells c.spare (AtHome z)), refl),
        (steps k s rule).leave id c z at,
        keep,
      ),
      λ d same. ap (λ (e : Calling). (departed_view k e, [])) (caller-injective c d same),
    )

pub leave_allowed : AllStepsKeepTheRule → (k : Shape) (slots id : ℕ) (me : SeatState) (word new : ℕ) → MaySwap leave k me word new → Allows (Holds k) slots id me word (λ _. new) (told leave me)
leave_allowed steps k slots id me word new may t holds wide at small =
    let c : Calling = may.0 in let z : Kept = may.1 in let s : Ring = holds.0 in let sp = holds.1 in
    let place : length (map pack_slot s.slots) + c.who ≡ slot_count k + c.who = ap (λ (n : ℕ). n + c.who) (length-map s.slots pack_slot ∙ holds.2.sized.slots) in
    let same : (spelt s, with_spare k c z, length (map pack_slot s.slots) + c.who, pack_berth (Home c.spare)) ≡ (t, me, word, new) =
    λ i. (record { words = sym sp.0 i; homes = sym sp.1 i; views = sym sp.2 i }, sym may.2 i, (place ∙ sym may.5) i, sym may.6 i) in
    let here : get_elem? s.views id ≡ some (caller_view k c) = ap (λ (l : List View). get_elem? l id) (sym sp.2) ∙ at ∙ ap (λ (m : SeatState). some m.0) may.2 in
    subst (λ (q : T × SeatState × ℕ × ℕ). Goes k q.0 id q.1 q.2 q.3 (told leave q.1)) same (goes steps k s holds.2 holds.3 id c z here)
