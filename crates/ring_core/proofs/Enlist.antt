-- An enlisting keeps the rule.
use Rattle.std.proofs.Common.{◌≡◌, ◌≢◌, ⊎_elim, ℕ, ◌+◌, ◌<◌, List, length, Option, Some, None, true, refl, sym, ap, ◌∙◌, subst, arith, length-set}
use Rattle.std.specs.Prelude.{slice_get}
use mathlib.Core.Option.{some}
use lib.ListN.{get_elem?}
use Rattle.ring_core.proofs.Elements.{at_set, set_else}
use Rattle.playout.specs.declared.call.Call.{Call}
use Rattle.ring_core.specs.declared.views.Shape.{Shape}
use Rattle.ring_core.specs.declared.views.Pooling.{Pooling}
use Rattle.ring_core.specs.declared.views.Calling.{Calling}
use Rattle.ring_core.specs.declared.views.Role.{Role}
use Rattle.ring_core.specs.declared.views.Role.TheVariants.{Pool, Caller, Departed, Note, Spent}
use Rattle.ring_core.specs.declared.views.View.{View}
use Rattle.playout.specs.Machine.{start, Machine, opening_machine}
use Rattle.playout.specs.History.{after_all, calls, calls_of, moves}
use Rattle.ring_core.specs.declared.words.SlotWord.{SlotWord}
use Rattle.ring_core.specs.declared.words.Berth.{Berth}
use Rattle.ring_core.specs.declared.words.Berth.TheVariants.{Fresh, Out}
use Rattle.ring_core.specs.declared.words.Cell.{Cell}
use Rattle.ring_core.specs.declared.words.Cell.TheVariants.{AtHome, OutWith}
use Rattle.ring_core.specs.Ring.{berth_cell, Ring, slot_count, Place, in_slot, in_berth, with_seat, Names, StandsIn, HasRight, IsCalling, HasLeft, CallerStands, RoleFits, RingRule}
use Rattle.ring_core.specs.Steps.{pool_view, caller_view, newcomer, enlist_at}
use Rattle.ring_core.proofs.Seats.{set_at, at_below, Same, stands_kept}
use Rattle.ring_core.proofs.Cells.{put, put_here, put_else}
use Rattle.ring_core.specs.RuleLaws.{fresh_place}
use Rattle.ring_core.specs.ListPlaces.{at_one}

module _ (k : Shape) (s : Ring) (rule : RingRule k s) (id : ℕ) (p : Pooling) (who cell : ℕ) (at : get_elem? s.views id ≡ some (pool_view k p)) (has : slice_get p.rights who ≡ Some true)
    (empty : (n : ℕ) (l : List Call) → slice_get p.lists n ≡ Some (Some l) → ⊥) (berth : get_elem? s.berths who ≡ some (Fresh cell)) where
  abbrev v : View
  v = pool_view k p

  abbrev c : Calling
  c = newcomer who cell

  abbrev u : View
  u = caller_view k c

  abbrev t : Ring
  t = enlist_at k s id who cell

  abbrev m : Machine
  m = after_all opening_machine rule.history

  abbrev places : ℕ → Place
  places = put rule.place cell (with_seat id)

  pool_caller : (q : Pooling) (d : Calling) → Path Role (Pool q) (Caller d) → ⊥
  pool_caller q d e = cc

  caller-injective : (d e : Calling) → Path Role (Caller d) (Caller e) → Path Calling d e
  caller-injective d e q = cc

  some-inj : (a b : ℕ) → Path (Option ℕ) (Some a) (Some b) → a ≡ b
  some-inj a b e = cc

  none_some : (a : ℕ) → Path (Option ℕ) None (Some a) → ⊥
  none_some a e = cc

  was : (rule.place cell ≡ in_berth who) × (cell < length s.cells)
  was = fresh_place k s rule who cell berth

  -- no seat was named in the place of this one, since its view is a pool
  not_seat : (n : ℕ) → Names s (with_seat id) n → ⊥
  not_seat n a = pool_caller p a.1 (ap (λ (y : View). y.role) (at_one s.views id v a.0 at a.2) ∙ a.3)

  same_cell : (n : ℕ) → Names s (in_berth who) n → n ≡ cell
  same_cell n a = some-inj n cell (sym a.2 ∙ ap berth_cell (at_one s.berths who a.0 (Fresh cell) a.1 berth))

  names_else : (q : Place) (n : ℕ) → q ≢ in_berth who → q ≢ with_seat id → Names s q n → Names t q n
  names_else (in_slot j) n a b x = x
  names_else (in_berth j) n a b x = (x.0, set_else s.berths who j Out (λ e. a (ap in_berth e)) ∙ x.1, x.2)
  names_else (with_seat j) n a b x = (x.0, x.1, set_else s.views id j u (λ e. b (ap with_seat e)) ∙ x.2, x.3, x.4)

  stays : (n : ℕ) (q : Place) → rule.place n ≡ q → q ≢ in_berth who → places n ≡ q
  stays n q e a = put_else rule.place cell (with_seat id) n (λ i. a (sym e ∙ (ap rule.place i ∙ was.0))) ∙ e

  longer : (n : ℕ) → n < length s.cells → n < length t.cells
  longer n h = omega (arith, length-set s.cells cell (OutWith id))

  berth_slot : (i j : ℕ) → Path Place (in_slot i) (in_berth j) → ⊥
  berth_slot i j e = cc

  berth_seat : (i j : ℕ) → Path Place (with_seat i) (in_berth j) → ⊥
  berth_seat i j e = cc

  berth-injective : (i j : ℕ) → Path Place (in_berth i) (in_berth j) → i ≡ j
  berth-injective i j e = cc

  alone_after : (q : Place) (n : ℕ) → Names t q n → (places n ≡ q) × (n < length t.cells)
  alone_after (in_slot j) n a = let old = rule.alone (in_slot j) n a in (stays n (in_slot j) old.0 (λ e. berth_slot j who e), longer n old.1)
  alone_after (in_berth j) n a =
      ⊎_elim
      (λ (r : (j ≡ who) × (Out ≡ a.0)). absurd (none_some n (ap berth_cell r.1 ∙ a.2)))
      (λ (r : (j ≢ who) × (get_elem? s.berths j ≡ some a.0)). let old = rule.alone (in_berth j) n (a.0, r.1, a.2) in (stays n (in_berth j) old.0 (λ e. r.0 (berth-injective j who e)), longer n old.1))
      (at_set s.berths who j Out a.0 a.1)
  alone_after (with_seat j) n a =
      ⊎_elim
      (λ (r : (j ≡ id) × (u ≡ a.0)).
      let same : n ≡ cell = sym a.4 ∙ ap (λ (d : Calling). d.spare) (sym (caller-injective c a.1 (ap (λ (y : View). y.role) r.1 ∙ a.3))) in
      (put_here rule.place cell (with_seat id) n same ∙ ap with_seat (sym r.0), longer n (subst (λ (i : ℕ). i < length s.cells) (sym same) was.1)))
      (λ (r : (j ≢ id) × (get_elem? s.views j ≡ some a.0)). let old = rule.alone (with_seat j) n (a.0, a.1, r.1, a.3, a.4) in (stays n (with_seat j) old.0 (λ e. berth_seat j who e), longer n old.1))
      (at_set s.views id j u a.0 a.2)

  abbrev Fits : Place → ℕ → Cell → Type 0
  Fits q n y = Names t q n × StandsIn q y

  named_after : (n : ℕ) (y : Cell) → get_elem? t.cells n ≡ some y → Names t (places n) n × StandsIn (places n) y
  named_after n y e =
      ⊎_elim
      (λ (r : (n ≡ cell) × (OutWith id ≡ y)). subst (λ (q : Place). Fits q n y) (sym (put_here rule.place cell (with_seat id) n r.0)) ((u, c, set_at s.views id v u at, refl, sym r.0), sym r.1))
      (λ (r : (n ≢ cell) × (get_elem? s.cells n ≡ some y)).
      let old = rule.named n y r.1 in
      let not_berth : rule.place n ≢ in_berth who = λ q. r.0 (same_cell n (subst (λ (q : Place). Names s q n) q old.0)) in
      let not_mine : rule.place n ≢ with_seat id = λ q. not_seat n (subst (λ (q : Place). Names s q n) q old.0) in
      subst (λ (q : Place). Fits q n y) (sym (put_else rule.place cell (with_seat id) n r.0)) (names_else (rule.place n) n not_berth not_mine old.0, old.1))
      (at_set s.cells cell n (OutWith id) y e)

  -- a cell that a slot names keeps its value
  value_stays : (j : ℕ) (w : SlotWord) (y : Cell) → get_elem? s.slots j ≡ some w → get_elem? s.cells w.cell ≡ some y → get_elem? t.cells w.cell ≡ some y
  value_stays j w y e f = set_else s.cells cell w.cell (OutWith id) (λ q. berth_slot j who (sym (rule.alone (in_slot j) w.cell (w, e, refl)).0 ∙ (ap rule.place q ∙ was.0))) ∙ f

  same_other : (n : ℕ) → n ≢ who → Same n v.role u.role
  same_other n other = record { right = λ r. absurd r; calling = λ l a. absurd (other (sym a.0)); calling_back = λ l a. absurd a; left = λ l a. absurd a; left_back = λ l a. absurd (empty n l a) }

  callers : (n : ℕ) (b : Berth) → get_elem? t.berths n ≡ some b → CallerStands t.views n (calls_of n rule.history) b
  callers n b e =
      ⊎_elim
      (λ (r : (n ≡ who) × (Out ≡ b)). subst (λ (q : ℕ × Berth). CallerStands t.views q.0 (calls_of q.0 rule.history) q.1) (λ i. (sym r.0 i, r.1 i)) mine)
      (λ (r : (n ≢ who) × (get_elem? s.berths n ≡ some b)). stands_kept s.views id v u at n (calls_of n rule.history) b (same_other n r.0) (rule.caller n b r.1))
      (at_set s.berths who n Out b e)
    where
      mine : CallerStands t.views who (calls_of who rule.history) Out
      mine =
          let st = rule.caller who (Fresh cell) berth in (
            (λ j y f r. ⊎_elim (λ (q : (j ≡ id) × (u ≡ y)). subst (λ (z : View). HasRight who z.role) (sym q.1) r) (λ (q : (j ≢ id) × (get_elem? s.views j ≡ some y)). q.0 (st.3 j id y v q.1 at r has)) (at_set s.views id j u y f)),
            (
              id,
              (u, set_at s.views id v u at, (refl, sym st.0)),
              λ j y l f a. ⊎_elim (λ (q : (j ≡ id) × (u ≡ y)). (q.0, (let d : IsCalling who l (Caller c) = subst (λ (z : View). IsCalling who l z.role) (sym q.1) a in sym d.1 ∙ sym st.0))) (λ (q : (j ≢ id) × (get_elem? s.views j ≡ some y)). absurd (st.1 j y l q.1 a)) (at_set s.views id j u y f),
            ),
            λ j y l f a. ⊎_elim (λ (q : (j ≡ id) × (u ≡ y)). subst (λ (z : View). HasLeft who l z.role) (sym q.1) a) (λ (q : (j ≢ id) × (get_elem? s.views j ≡ some y)). st.2 j y l q.1 a) (at_set s.views id j u y f),
          )

  role_as_is : (role : Role) → RoleFits s (slot_count k) m rule.history k.filers role → RoleFits t (slot_count k) m rule.history k.filers role
  role_as_is (Pool q) f = f
  role_as_is (Caller c) f = f
  role_as_is (Departed d) f = f
  role_as_is (Note n) f = f
  role_as_is Spent f = f

  pub enlist_keeps : RingRule k t
  enlist_keeps =
      record {
        history = rule.history;
        place = places;
        sized = record { some_filer = rule.sized.some_filer; filers = rule.sized.filers; g = rule.sized.g; slots = rule.sized.slots; berths = length-set s.berths who Out ∙ rule.sized.berths; cells = length-set s.cells cell (OutWith id) ∙ rule.sized.cells };
        shaped = λ j y e n. ⊎_elim (λ (r : (j ≡ id) × (u ≡ y)). ap (λ (z : View). z.shape) (sym r.1)) (λ (r : (j ≢ id) × (get_elem? s.views j ≡ some y)). rule.shaped j y r.1 n) (at_set s.views id j u y e);
        legal = rule.legal;
        callers = rule.callers;
        slot = λ j w e. let f = rule.slot j w e in record { reached = f.reached; near = f.near; congruent = f.congruent; filled = λ b. let g = f.filled b in (g.0, g.1, value_stays j w (AtHome (Some g.0)) e g.2); free = f.free };
        named = named_after;
        alone = alone_after;
        caller = callers;
        position = rule.position;
        bound = rule.bound;
        role = λ j y e. ⊎_elim (λ (r : (j ≡ id) × (u ≡ y)). subst (λ (z : View). RoleFits t (slot_count k) m rule.history k.filers z.role) r.1 newly) (λ (r : (j ≢ id) × (get_elem? s.views j ≡ some y)). role_as_is y.role (rule.role j y r.1)) (at_set s.views id j u y e);
        source = rule.source;
        base = rule.base;
      }
    where
      no_value : (x : ℕ) → Path (Option ℕ) None (Some x) → ⊥
      no_value x e = cc

      newly : RoleFits t (slot_count k) m rule.history k.filers (Caller c)
      newly =
          let near = at_below s.berths who (Fresh cell) berth in let n : ℕ = length s.berths in let wide : n ≡ k.filers + 1 = rule.sized.berths in
          let a : m.position ≡ start + moves (calls rule.history) = rule.position in
          (omega arith, record { pairs = tt; position = omega arith; source = λ x e. absurd (no_value x e); base = λ x e. absurd (no_value x e) }, tt)
