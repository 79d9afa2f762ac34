-- The cell in a slot and the spare of a seat change places.
use Rattle.std.proofs.Common.{◌≡◌, ◌≢◌, ⊎_elim, ℕ, ◌<◌, List, set, length, Option, refl, sym, ap, ◌∙◌, subst, arith, length-set}
use native.Mathlib.Decide.{ℕ_discrete}
use mathlib.Core.Option.{some}
use lib.ListN.{get_elem?}
use Rattle.ring_core.proofs.Elements.{at_set, set_else}
use Rattle.ring_core.specs.declared.views.Calling.{Calling}
use Rattle.ring_core.specs.declared.views.Role.{Role}
use Rattle.ring_core.specs.declared.views.Role.TheVariants.{Caller}
use Rattle.ring_core.specs.declared.views.View.{View}
use Rattle.ring_core.specs.declared.words.SlotWord.{SlotWord}
use Rattle.ring_core.specs.declared.words.Cell.{Cell}
use Rattle.ring_core.specs.declared.words.Cell.TheVariants.{AtHome, OutWith}
use Rattle.ring_core.specs.Ring.{Ring, Place, in_slot, in_berth, with_seat, StandsIn, Names}
use Rattle.ring_core.specs.ListPlaces.{at_one}
use Rattle.ring_core.proofs.Seats.{set_at}

abbrev Places : Type 0
Places = ℕ → Place

pick : {P : Type 0} → Dec P → Place → Place → Place
pick (yes _) a b = a
pick (no _) a b = b

pub put : Places → ℕ → Place → Places
put f i p j = pick (ℕ_discrete j i) p (f j)

pub put_here : (f : Places) (i : ℕ) (p : Place) (j : ℕ) → j ≡ i → put f i p j ≡ p
unfolding put pick
put_here f i p j e = go (ℕ_discrete j i)
  where
    go : (d : Dec (j ≡ i)) → pick d p (f j) ≡ p
    go (yes _) = refl
    go (no n) = absurd (n e)

pub put_else : (f : Places) (i : ℕ) (p : Place) (j : ℕ) → j ≢ i → put f i p j ≡ f j
unfolding put pick
put_else f i p j n = go (ℕ_discrete j i)
  where
    go : (d : Dec (j ≡ i)) → pick d p (f j) ≡ f j
    go (yes e) = absurd (n e)
    go (no _) = refl

caller-injective : (c d : Calling) → Path Role (Caller c) (Caller d) → Path Calling c d
caller-injective c d e = cc

slot_seat : (i j : ℕ) → Path Place (in_slot i) (with_seat j) → ⊥
slot_seat i j e = cc

slot_berth : (i j : ℕ) → Path Place (in_slot i) (in_berth j) → ⊥
slot_berth i j e = cc

seat_berth : (i j : ℕ) → Path Place (with_seat i) (in_berth j) → ⊥
seat_berth i j e = cc

slot-injective : (i j : ℕ) → Path Place (in_slot i) (in_slot j) → i ≡ j
slot-injective i j e = cc

seat-injective : (i j : ℕ) → Path Place (with_seat i) (with_seat j) → i ≡ j
seat-injective i j e = cc

module _ (s : Ring) (place : Places) (i id : ℕ) (w x : SlotWord) (v u : View) (c d : Calling) (z : Option (List ℕ))
    (at_slot : get_elem? s.slots i ≡ some w) (at_seat : get_elem? s.views id ≡ some v) (is : v.role ≡ Caller c) (will : u.role ≡ Caller d) (given : x.cell ≡ c.spare) (got : d.spare ≡ w.cell)
    (alone : (p : Place) (n : ℕ) → Names s p n → (place n ≡ p) × (n < length s.cells))
    (named : (n : ℕ) (y : Cell) → get_elem? s.cells n ≡ some y → Names s (place n) n × StandsIn (place n) y) where
  abbrev pub swapped : Ring
  swapped = record s { slots = set s.slots i x; cells = set (set s.cells c.spare (AtHome z)) w.cell (OutWith id); views = set s.views id u }

  abbrev pub places : Places
  places = put (put place c.spare (in_slot i)) w.cell (with_seat id)

  pub slot_place : (place w.cell ≡ in_slot i) × (w.cell < length s.cells)
  slot_place = alone (in_slot i) w.cell (w, at_slot, refl)

  pub seat_place : (place c.spare ≡ with_seat id) × (c.spare < length s.cells)
  seat_place = alone (with_seat id) c.spare (v, c, at_seat, is, refl)

  pub apart : c.spare ≢ w.cell
  apart e = slot_seat i id (sym slot_place.0 ∙ ap place (sym e) ∙ seat_place.0)

  to_slot : places c.spare ≡ in_slot i
  to_slot = put_else _ w.cell (with_seat id) c.spare apart ∙ put_here place c.spare (in_slot i) c.spare refl

  to_seat : places w.cell ≡ with_seat id
  to_seat = put_here _ w.cell (with_seat id) w.cell refl

  -- a cell that stands elsewhere is neither of the two
  stays : (n : ℕ) (p : Place) → place n ≡ p → p ≢ in_slot i → p ≢ with_seat id → places n ≡ p
  stays n p e a b = put_else _ w.cell (with_seat id) n (λ q. a (sym e ∙ ap place q ∙ slot_place.0)) ∙ (put_else place c.spare (in_slot i) n (λ q. b (sym e ∙ ap place q ∙ seat_place.0)) ∙ e)

  longer : (n : ℕ) → n < length s.cells → n < length swapped.cells
  longer n h = omega (arith, length-set (set s.cells c.spare (AtHome z)) w.cell (OutWith id), length-set s.cells c.spare (AtHome z))

  pub alone_after : (p : Place) (n : ℕ) → Names swapped p n → (places n ≡ p) × (n < length swapped.cells)
  alone_after (in_slot j) n names =
      ⊎_elim
      (λ (t : (j ≡ i) × (x ≡ names.0)). let same : n ≡ c.spare = sym names.2 ∙ (ap (λ (y : SlotWord). y.cell) (sym t.1) ∙ given) in
      (ap places same ∙ (to_slot ∙ ap in_slot (sym t.0)), subst (λ (y : ℕ). y < length swapped.cells) (sym same) (longer c.spare seat_place.1)))
      (λ (t : (j ≢ i) × (get_elem? s.slots j ≡ some names.0)). let old = alone (in_slot j) n (names.0, t.1, names.2) in (stays n (in_slot j) old.0 (λ e. t.0 (slot-injective j i e)) (λ e. slot_seat j id e), longer n old.1))
      (at_set s.slots i j x names.0 names.1)
  alone_after (in_berth j) n names = let old = alone (in_berth j) n names in (stays n (in_berth j) old.0 (λ e. slot_berth i j (sym e)) (λ e. seat_berth id j (sym e)), longer n old.1)
  alone_after (with_seat j) n names =
      ⊎_elim
      (λ (t : (j ≡ id) × (u ≡ names.0)). let role : Caller d ≡ Caller names.1 = sym will ∙ (ap (λ (y : View). y.role) t.1 ∙ names.3) in
      let same : n ≡ w.cell = sym names.4 ∙ (ap (λ (y : Calling). y.spare) (sym (caller-injective d names.1 role)) ∙ got) in
      (ap places same ∙ (to_seat ∙ ap with_seat (sym t.0)), subst (λ (y : ℕ). y < length swapped.cells) (sym same) (longer w.cell slot_place.1)))
      (λ (t : (j ≢ id) × (get_elem? s.views j ≡ some names.0)). let old = alone (with_seat j) n (names.0, names.1, t.1, names.3, names.4) in
      (stays n (with_seat j) old.0 (λ e. slot_seat i j (sym e)) (λ e. t.0 (seat-injective j id e)), longer n old.1))
      (at_set s.views id j u names.0 names.2)

  names_else : (p : Place) (n : ℕ) → p ≢ in_slot i → p ≢ with_seat id → Names s p n → Names swapped p n
  names_else (in_slot j) n a b names = (names.0, set_else s.slots i j x (λ e. a (ap in_slot e)) ∙ names.1, names.2)
  names_else (in_berth j) n a b names = names
  names_else (with_seat j) n a b names = (names.0, names.1, set_else s.views id j u (λ e. b (ap with_seat e)) ∙ names.2, names.3, names.4)

  abbrev Fits : Place → ℕ → Cell → Type 0
  Fits p n y = Names swapped p n × StandsIn p y

  pub named_after : (n : ℕ) (y : Cell) → get_elem? swapped.cells n ≡ some y → Names swapped (places n) n × StandsIn (places n) y
  named_after n y e =
      ⊎_elim
      (λ (t : (n ≡ w.cell) × (OutWith id ≡ y)). subst (λ (p : Place). Fits p n y) (sym (ap places t.0 ∙ to_seat)) ((u, d, set_at s.views id v u at_seat, will, got ∙ sym t.0), sym t.1))
      (λ (t : (n ≢ w.cell) × (get_elem? (set s.cells c.spare (AtHome z)) n ≡ some y)).
      ⊎_elim
      (λ (q : (n ≡ c.spare) × (AtHome z ≡ y)). subst (λ (p : Place). Fits p n y) (sym (ap places q.0 ∙ to_slot)) ((x, set_at s.slots i w x at_slot, given ∙ sym q.0), (z, sym q.1)))
      (λ (q : (n ≢ c.spare) × (get_elem? s.cells n ≡ some y)).
      let old = named n y q.1 in
      let other : places n ≡ place n = put_else _ w.cell (with_seat id) n t.0 ∙ put_else place c.spare (in_slot i) n q.0 in
      let not_slot : place n ≢ in_slot i = λ e. t.0 (slot_cell n (subst (λ (p : Place). Names s p n) e old.0)) in
      let not_seat : place n ≢ with_seat id = λ e. q.0 (seat_cell n (subst (λ (p : Place). Names s p n) e old.0)) in
      subst (λ (p : Place). Fits p n y) (sym other) (names_else (place n) n not_slot not_seat old.0, old.1))
      (at_set s.cells c.spare n (AtHome z) y t.1))
      (at_set (set s.cells c.spare (AtHome z)) w.cell n (OutWith id) y e)
    where
      slot_cell : (n : ℕ) → Names s (in_slot i) n → n ≡ w.cell
      slot_cell n names = sym names.2 ∙ ap (λ (y : SlotWord). y.cell) (at_one s.slots i names.0 w names.1 at_slot)

      seat_cell : (n : ℕ) → Names s (with_seat id) n → n ≡ c.spare
      seat_cell n names = let role : Caller names.1 ≡ Caller c = sym names.3 ∙ (ap (λ (y : View). y.role) (at_one s.views id names.0 v names.2 at_seat) ∙ is) in sym names.4 ∙ ap (λ (y : Calling). y.spare) (caller-injective names.1 c role)

  -- a cell that another word names keeps its value
  pub value_stays : (j : ℕ) (y : SlotWord) (q : Cell) → j ≢ i → get_elem? s.slots j ≡ some y → get_elem? s.cells y.cell ≡ some q → get_elem? swapped.cells y.cell ≡ some q
  value_stays j y q other at here =
      let p = alone (in_slot j) y.cell (y, at, refl) in
      set_else (set s.cells c.spare (AtHome z)) w.cell y.cell (OutWith id) (λ e. other (slot-injective j i (sym p.0 ∙ ap place e ∙ slot_place.0)))
      ∙ (set_else s.cells c.spare y.cell (AtHome z) (λ e. slot_seat j id (sym p.0 ∙ ap place e ∙ seat_place.0)) ∙ here)
