-- A leaving keeps the rule.
use Rattle.std.proofs.Common.{◌≡◌, ◌≢◌, ⊎_elim, ℕ, ◌<◌, List, length, Option, Some, None, refl, sym, ap, ◌∙◌, subst, arith, length-set}
use mathlib.Core.Option.{some}
use lib.ListN.{get_elem?}
use Rattle.ring_core.proofs.Elements.{at_set, set_else}
use Rattle.ring_core.specs.declared.views.Shape.{Shape}
use Rattle.ring_core.specs.declared.views.Departing.{Departing}
use Rattle.ring_core.specs.declared.views.Calling.{Calling}
use Rattle.ring_core.specs.declared.views.Role.{Role}
use Rattle.ring_core.specs.declared.views.Role.TheVariants.{Pool, Caller, Departed, Note, Spent}
use Rattle.ring_core.specs.declared.views.View.{View}
use Rattle.playout.specs.Machine.{Machine, opening_machine}
use Rattle.playout.specs.History.{after_all, calls_of}
use Rattle.ring_core.specs.declared.words.SlotWord.{SlotWord}
use Rattle.ring_core.specs.declared.words.Berth.{Berth}
use Rattle.ring_core.specs.declared.words.Berth.TheVariants.{Out, Home}
use Rattle.ring_core.specs.declared.words.Cell.{Cell}
use Rattle.ring_core.specs.declared.words.Cell.TheVariants.{AtHome}
use Rattle.ring_core.specs.Ring.{berth_cell, Ring, slot_count, Place, in_slot, in_berth, with_seat, Names, StandsIn, HasRight, IsCalling, HasLeft, CallerStands, RoleFits, RingRule}
use Rattle.ring_core.specs.Steps.{caller_view, departed_view, leave_at}
use Rattle.ring_core.proofs.Seats.{set_at, Same, stands_kept}
use Rattle.ring_core.proofs.Cells.{put, put_here, put_else}
use Rattle.ring_core.specs.RuleLaws.{caller_is_out}
use Rattle.ring_core.specs.ListPlaces.{at_one}

module _ (k : Shape) (s : Ring) (rule : RingRule k s) (id : ℕ) (c : Calling) (z : Option (List ℕ)) (at : get_elem? s.views id ≡ some (caller_view k c)) where
  abbrev v : View
  v = caller_view k c

  abbrev u : View
  u = departed_view k c

  abbrev t : Ring
  t = leave_at k s id c z

  abbrev m : Machine
  m = after_all opening_machine rule.history

  abbrev places : ℕ → Place
  places = put rule.place c.spare (in_berth c.who)

  caller-injective : (d e : Calling) → Path Role (Caller d) (Caller e) → Path Calling d e
  caller-injective d e q = cc

  departed_caller : (d : Departing) (e : Calling) → Path Role (Departed d) (Caller e) → ⊥
  departed_caller d e q = cc

  some-inj : (a b : ℕ) → Path (Option ℕ) (Some a) (Some b) → a ≡ b
  some-inj a b e = cc

  none_some : (a : ℕ) → Path (Option ℕ) None (Some a) → ⊥
  none_some a e = cc

  berth_slot : (i j : ℕ) → Path Place (in_slot i) (with_seat j) → ⊥
  berth_slot i j e = cc

  berth_seat : (i j : ℕ) → Path Place (in_berth i) (with_seat j) → ⊥
  berth_seat i j e = cc

  seat-injective : (i j : ℕ) → Path Place (with_seat i) (with_seat j) → i ≡ j
  seat-injective i j e = cc

  was : (rule.place c.spare ≡ with_seat id) × (c.spare < length s.cells)
  was = rule.alone (with_seat id) c.spare (v, c, at, refl, refl)

  is_out : get_elem? s.berths c.who ≡ some Out
  is_out = caller_is_out k s rule id c at

  same_spare : (n : ℕ) → Names s (with_seat id) n → n ≡ c.spare
  same_spare n a = sym a.4 ∙ ap (λ (d : Calling). d.spare) (caller-injective a.1 c (sym a.3 ∙ ap (λ (y : View). y.role) (at_one s.views id a.0 v a.2 at)))

  not_berth : (n : ℕ) → Names s (in_berth c.who) n → ⊥
  not_berth n a = none_some n (ap berth_cell (at_one s.berths c.who Out a.0 is_out a.1) ∙ a.2)

  names_else : (q : Place) (n : ℕ) → q ≢ in_berth c.who → q ≢ with_seat id → Names s q n → Names t q n
  names_else (in_slot j) n a b x = x
  names_else (in_berth j) n a b x = (x.0, set_else s.berths c.who j (Home c.spare) (λ e. a (ap in_berth e)) ∙ x.1, x.2)
  names_else (with_seat j) n a b x = (x.0, x.1, set_else s.views id j u (λ e. b (ap with_seat e)) ∙ x.2, x.3, x.4)

  stays : (n : ℕ) (q : Place) → rule.place n ≡ q → q ≢ with_seat id → places n ≡ q
  stays n q e a = put_else rule.place c.spare (in_berth c.who) n (λ i. a (sym e ∙ (ap rule.place i ∙ was.0))) ∙ e

  longer : (n : ℕ) → n < length s.cells → n < length t.cells
  longer n h = omega (arith, length-set s.cells c.spare (AtHome z))

  alone_after : (q : Place) (n : ℕ) → Names t q n → (places n ≡ q) × (n < length t.cells)
  alone_after (in_slot j) n a = let old = rule.alone (in_slot j) n a in (stays n (in_slot j) old.0 (λ e. berth_slot j id e), longer n old.1)
  alone_after (in_berth j) n a =
      ⊎_elim
      (λ (r : (j ≡ c.who) × (Home c.spare ≡ a.0)).
      let same : n ≡ c.spare = some-inj n c.spare (sym a.2 ∙ ap berth_cell (sym r.1)) in
      (put_here rule.place c.spare (in_berth c.who) n same ∙ ap in_berth (sym r.0), longer n (subst (λ (i : ℕ). i < length s.cells) (sym same) was.1)))
      (λ (r : (j ≢ c.who) × (get_elem? s.berths j ≡ some a.0)). let old = rule.alone (in_berth j) n (a.0, r.1, a.2) in (stays n (in_berth j) old.0 (λ e. berth_seat j id e), longer n old.1))
      (at_set s.berths c.who j (Home c.spare) a.0 a.1)
  alone_after (with_seat j) n a =
      ⊎_elim
      (λ (r : (j ≡ id) × (u ≡ a.0)). absurd (departed_caller (record { who = c.who; list = c.list }) a.1 (ap (λ (y : View). y.role) r.1 ∙ a.3)))
      (λ (r : (j ≢ id) × (get_elem? s.views j ≡ some a.0)). let old = rule.alone (with_seat j) n (a.0, a.1, r.1, a.3, a.4) in (stays n (with_seat j) old.0 (λ e. r.0 (seat-injective j id e)), longer n old.1))
      (at_set s.views id j u a.0 a.2)

  abbrev Fits : Place → ℕ → Cell → Type 0
  Fits q n y = Names t q n × StandsIn q y

  named_after : (n : ℕ) (y : Cell) → get_elem? t.cells n ≡ some y → Names t (places n) n × StandsIn (places n) y
  named_after n y e =
      ⊎_elim
      (λ (r : (n ≡ c.spare) × (AtHome z ≡ y)). subst (λ (q : Place). Fits q n y) (sym (put_here rule.place c.spare (in_berth c.who) n r.0)) ((Home c.spare, set_at s.berths c.who Out (Home c.spare) is_out, ap Some (sym r.0)), (z, sym r.1)))
      (λ (r : (n ≢ c.spare) × (get_elem? s.cells n ≡ some y)).
      let old = rule.named n y r.1 in
      let no_berth : rule.place n ≢ in_berth c.who = λ q. not_berth n (subst (λ (q : Place). Names s q n) q old.0) in
      let no_seat : rule.place n ≢ with_seat id = λ q. r.0 (same_spare n (subst (λ (q : Place). Names s q n) q old.0)) in
      subst (λ (q : Place). Fits q n y) (sym (put_else rule.place c.spare (in_berth c.who) n r.0)) (names_else (rule.place n) n no_berth no_seat old.0, old.1))
      (at_set s.cells c.spare n (AtHome z) y e)

  value_stays : (j : ℕ) (w : SlotWord) (y : Cell) → get_elem? s.slots j ≡ some w → get_elem? s.cells w.cell ≡ some y → get_elem? t.cells w.cell ≡ some y
  value_stays j w y e f = set_else s.cells c.spare w.cell (AtHome z) (λ q. berth_slot j id (sym (rule.alone (in_slot j) w.cell (w, e, refl)).0 ∙ (ap rule.place q ∙ was.0))) ∙ f

  same_other : (n : ℕ) → n ≢ c.who → Same n v.role u.role
  same_other n other = record { right = λ r. r; calling = λ l a. absurd a; calling_back = λ l a. absurd (other (sym a.0)); left = λ l a. absurd (other (sym a.0)); left_back = λ l a. absurd a }

  callers : (n : ℕ) (b : Berth) → get_elem? t.berths n ≡ some b → CallerStands t.views n (calls_of n rule.history) b
  callers n b e =
      ⊎_elim
      (λ (r : (n ≡ c.who) × (Home c.spare ≡ b)). subst (λ (q : ℕ × Berth). CallerStands t.views q.0 (calls_of q.0 rule.history) q.1) (λ i. (sym r.0 i, r.1 i)) mine)
      (λ (r : (n ≢ c.who) × (get_elem? s.berths n ≡ some b)). stands_kept s.views id v u at n (calls_of n rule.history) b (same_other n r.0) (rule.caller n b r.1))
      (at_set s.berths c.who n (Home c.spare) b e)
    where
      mine : CallerStands t.views c.who (calls_of c.who rule.history) (Home c.spare)
      mine =
          let st = rule.caller c.who Out is_out in
          let here = st.1.2 id v c.list at (refl, refl) in (
            (λ j y f r. ⊎_elim (λ (q : (j ≡ id) × (u ≡ y)). subst (λ (w : View). HasRight c.who w.role) (sym q.1) r) (λ (q : (j ≢ id) × (get_elem? s.views j ≡ some y)). st.0 j y q.1 r) (at_set s.views id j u y f)),
            (λ j y l f a. ⊎_elim (λ (q : (j ≡ id) × (u ≡ y)). subst (λ (w : View). IsCalling c.who l w.role) (sym q.1) a) (λ (q : (j ≢ id) × (get_elem? s.views j ≡ some y)). q.0 ((st.1.2 j y l q.1 a).0 ∙ sym here.0)) (at_set s.views id j u y f)),
            (
              id,
              (u, set_at s.views id v u at, (refl, here.1)),
              λ j y l f a. ⊎_elim (λ (q : (j ≡ id) × (u ≡ y)). (q.0, (let d : HasLeft c.who l u.role = subst (λ (w : View). HasLeft c.who l w.role) (sym q.1) a in sym d.1 ∙ here.1))) (λ (q : (j ≢ id) × (get_elem? s.views j ≡ some y)). absurd (st.2 j y l q.1 a)) (at_set s.views id j u y f),
            ),
          )

  as_is : (role : Role) → RoleFits s (slot_count k) m rule.history k.filers role → RoleFits t (slot_count k) m rule.history k.filers role
  as_is (Pool q) f = f
  as_is (Caller d) f = f
  as_is (Departed d) f = f
  as_is (Note n) f = f
  as_is Spent f = f

  pub leave_keeps : RingRule k t
  leave_keeps =
      record {
        history = rule.history;
        place = places;
        sized = record { some_filer = rule.sized.some_filer; filers = rule.sized.filers; g = rule.sized.g; slots = rule.sized.slots; berths = length-set s.berths c.who (Home c.spare) ∙ rule.sized.berths; cells = length-set s.cells c.spare (AtHome z) ∙ rule.sized.cells };
        shaped = λ j y e n. ⊎_elim (λ (r : (j ≡ id) × (u ≡ y)). ap (λ (w : View). w.shape) (sym r.1)) (λ (r : (j ≢ id) × (get_elem? s.views j ≡ some y)). rule.shaped j y r.1 n) (at_set s.views id j u y e);
        legal = rule.legal;
        callers = rule.callers;
        slot = λ j w e. let f = rule.slot j w e in record { reached = f.reached; near = f.near; congruent = f.congruent; filled = λ b. let g = f.filled b in (g.0, g.1, value_stays j w (AtHome (Some g.0)) e g.2); free = f.free };
        named = named_after;
        alone = alone_after;
        caller = callers;
        position = rule.position;
        bound = rule.bound;
        role = λ j y e. ⊎_elim (λ (r : (j ≡ id) × (u ≡ y)). subst (λ (w : View). RoleFits t (slot_count k) m rule.history k.filers w.role) r.1 (rule.role id v at).0) (λ (r : (j ≢ id) × (get_elem? s.views j ≡ some y)). as_is y.role (rule.role j y r.1)) (at_set s.views id j u y e);
        source = rule.source;
        base = rule.base;
      }
