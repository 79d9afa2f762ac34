-- A gathering keeps the rule.
use Rattle.std.proofs.Common.{◌≡◌, ◌≢◌, ◌⊎◌, inl, inr, ⊎_elim, ℕ, suc, zero, ◌+◌, ◌<◌, ◌≤◌, List, [], ◌∷◌, set, length, Option, Some, refl, sym, ap, ◌∙◌, subst, arith, length-set}
use Rattle.std.specs.Prelude.{slice_get}
use native.Mathlib.Decide.{ℕ_discrete}
use mathlib.Core.Option.{some}
use lib.ListN.{get_elem?}
use Rattle.ring_core.proofs.Elements.{at_set, set_else}
use Rattle.playout.specs.declared.call.Call.{Call}
use Rattle.ring_core.specs.declared.views.Shape.{Shape}
use Rattle.ring_core.specs.declared.views.Departing.{Departing}
use Rattle.ring_core.specs.declared.views.Pooling.{Pooling}
use Rattle.ring_core.specs.declared.views.Calling.{Calling}
use Rattle.ring_core.specs.declared.views.Role.{Role}
use Rattle.ring_core.specs.declared.views.Role.TheVariants.{Pool, Caller, Departed, Note, Spent}
use Rattle.ring_core.specs.declared.views.View.{View}
use Rattle.playout.specs.Machine.{Machine, opening_machine}
use Rattle.playout.specs.History.{after_all, calls_of}
use Rattle.ring_core.specs.declared.words.Berth.{Berth}
use Rattle.ring_core.specs.declared.words.Berth.TheVariants.{Fresh, Out, Home}
use Rattle.ring_core.specs.Ring.{Ring, slot_count, Place, in_slot, in_berth, with_seat, Names, HasRight, IsCalling, HasLeft, CallerStands, RoleFits, RingRule}
use Rattle.ring_core.specs.Steps.{pool_view, gone_view, spent_view, with_list, gather_at}
use Rattle.ring_core.specs.ListPlaces.{at_one}
use Rattle.ring_core.proofs.Seats.{set_at, Same, stands_kept}

module _ {A : Type 0} where
  get_set_else : (l : List A) (i j : ℕ) (a : A) → j ≢ i → slice_get (set l i a) j ≡ slice_get l j
  get_set_else [] i j a n = refl
  get_set_else (x ∷ xs) zero zero a n = absurd (n refl)
  get_set_else (x ∷ xs) zero (suc j) a n = refl
  get_set_else (x ∷ xs) (suc i) zero a n = refl
  get_set_else (x ∷ xs) (suc i) (suc j) a n = get_set_else xs i j a (λ e. n (ap suc e))

  get_set_here : (l : List A) (i : ℕ) (a : A) → i < length l → slice_get (set l i a) i ≡ Some a
  get_set_here [] i a h = absurd (omega arith)
  get_set_here (x ∷ xs) zero a h = refl
  get_set_here (x ∷ xs) (suc i) a h = get_set_here xs i a (omega arith)

module _ (k : Shape) (s : Ring) (rule : RingRule k s) (id : ℕ) (p : Pooling) (other : ℕ) (d : Departing) (at : get_elem? s.views id ≡ some (pool_view k p)) (apart : other ≢ id) (there : get_elem? s.views other ≡ some (gone_view k d)) where
  abbrev v : View
  v = pool_view k p

  abbrev w : View
  w = pool_view k (with_list p d)

  abbrev g : View
  g = gone_view k d

  abbrev mid : List View
  mid = set s.views id w

  abbrev t : Ring
  t = gather_at k s id p other d

  abbrev m : Machine
  m = after_all opening_machine rule.history

  still : get_elem? mid other ≡ some g
  still = set_else s.views id other w apart ∙ there

  pool_caller : (q : Pooling) (c : Calling) → Path Role (Pool q) (Caller c) → ⊥
  pool_caller q c e = cc

  gone_caller : (c : Calling) → Path Role (Departed d) (Caller c) → ⊥
  gone_caller c e = cc

  spent_caller : (c : Calling) → Path Role Spent (Caller c) → ⊥
  spent_caller c e = cc

  lists-inj : (a b : List Call) → Path (Option (Option (List Call))) (Some (Some a)) (Some (Some b)) → a ≡ b
  lists-inj a b e = cc

  view_cases : (j : ℕ) (y : View) → get_elem? t.views j ≡ some y → ((j ≡ other) × (spent_view ≡ y)) ⊎ (((j ≡ id) × (w ≡ y)) ⊎ ((j ≢ other) × (get_elem? s.views j ≡ some y)))
  view_cases j y e =
      ⊎_elim
      (λ (r : (j ≡ other) × (spent_view ≡ y)). inl r)
      (λ (r : (j ≢ other) × (get_elem? mid j ≡ some y)). ⊎_elim (λ (q : (j ≡ id) × (w ≡ y)). inr (inl q)) (λ (q : (j ≢ id) × (get_elem? s.views j ≡ some y)). inr (inr (r.0, q.1))) (at_set s.views id j w y r.1))
      (at_set mid other j spent_view y e)

  before : (q : Place) (n : ℕ) → Names t q n → Names s q n
  before (in_slot j) n a = a
  before (in_berth j) n a = a
  before (with_seat j) n a =
      ⊎_elim
      (λ (r : (j ≡ other) × (spent_view ≡ a.0)). absurd (spent_caller a.1 (ap (λ (y : View). y.role) r.1 ∙ a.3)))
      (λ r. ⊎_elim (λ (r : (j ≡ id) × (w ≡ a.0)). absurd (pool_caller (with_list p d) a.1 (ap (λ (y : View). y.role) r.1 ∙ a.3))) (λ (r : (j ≢ other) × (get_elem? s.views j ≡ some a.0)). (a.0, a.1, r.1, a.3, a.4)) r)
      (view_cases j a.0 a.2)

  later : (q : Place) (n : ℕ) → Names s q n → Names t q n
  later (in_slot j) n a = a
  later (in_berth j) n a = a
  later (with_seat j) n a =
      let a1 : j ≢ id = λ e. pool_caller p a.1 (ap (λ (y : View). y.role) (at_one s.views id v a.0 at (subst (λ (i : ℕ). get_elem? s.views i ≡ some a.0) e a.2)) ∙ a.3) in
      let a2 : j ≢ other = λ e. gone_caller a.1 (ap (λ (y : View). y.role) (at_one s.views other g a.0 there (subst (λ (i : ℕ). get_elem? s.views i ≡ some a.0) e a.2)) ∙ a.3) in
      (a.0, a.1, set_else mid other j spent_view a2 ∙ (set_else s.views id j w a1 ∙ a.2), a.3, a.4)

  same_pool : (n : ℕ) → n ≢ d.who → Same n v.role w.role
  same_pool n no_who = record { right = λ r. r; calling = λ l a. a; calling_back = λ l a. a; left = λ l a. sym (get_set_else p.lists d.who n (Some d.list) no_who) ∙ a; left_back = λ l a. get_set_else p.lists d.who n (Some d.list) no_who ∙ a }

  same_gone : (n : ℕ) → n ≢ d.who → Same n g.role Spent
  same_gone n no_who = record { right = λ r. r; calling = λ l a. a; calling_back = λ l a. a; left = λ l a. absurd a; left_back = λ l a. absurd (no_who (sym a.0)) }

  callers : (n : ℕ) (b : Berth) → get_elem? s.berths n ≡ some b → CallerStands t.views n (calls_of n rule.history) b
  callers n b e = go (ℕ_discrete n d.who)
    where
      list : List Call
      list = calls_of n rule.history

      low : d.who ≤ k.filers
      low = rule.role other g there

      wide : length p.lists ≡ k.filers + 1
      wide = (rule.role id v at).0

      mine : n ≡ d.who → (b : Berth) → CallerStands s.views n list b → CallerStands t.views n list b
      mine q (Fresh x) st = absurd (st.2 other g d.list there (sym q, refl))
      mine q Out st = absurd (st.2 other g d.list there (sym q, refl))
      mine q (Home x) st =
          let here = st.2.2 other g d.list there (sym q, refl) in
          let z : ℕ = length p.lists in let h : z ≡ k.filers + 1 = wide in let u : d.who ≤ k.filers = low in
          let has : slice_get (set p.lists d.who (Some d.list)) n ≡ Some (Some d.list) = subst (λ (i : ℕ). slice_get (set p.lists d.who (Some d.list)) i ≡ Some (Some d.list)) (sym q) (get_set_here p.lists d.who (Some d.list) (omega arith)) in (
            (λ j y f r. ⊎_elim (λ (a : (j ≡ other) × (spent_view ≡ y)). subst (λ (i : View). HasRight n i.role) (sym a.1) r)
                (λ a. ⊎_elim (λ (a : (j ≡ id) × (w ≡ y)). st.0 id v at (subst (λ (i : View). HasRight n i.role) (sym a.1) r)) (λ (a : (j ≢ other) × (get_elem? s.views j ≡ some y)). st.0 j y a.1 r) a) (view_cases j y f)),
            (λ j y l f r. ⊎_elim (λ (a : (j ≡ other) × (spent_view ≡ y)). subst (λ (i : View). IsCalling n l i.role) (sym a.1) r)
                (λ a. ⊎_elim (λ (a : (j ≡ id) × (w ≡ y)). subst (λ (i : View). IsCalling n l i.role) (sym a.1) r) (λ (a : (j ≢ other) × (get_elem? s.views j ≡ some y)). st.1 j y l a.1 r) a) (view_cases j y f)),
            (
              id,
              (w, set_else mid other id spent_view (λ i. apart (sym i)) ∙ set_at s.views id v w at, has ∙ ap (λ (l : List Call). Some (Some l)) here.1),
              λ j y l f r. ⊎_elim (λ (a : (j ≡ other) × (spent_view ≡ y)). absurd (subst (λ (i : View). HasLeft n l i.role) (sym a.1) r))
                  (λ a. ⊎_elim (λ (a : (j ≡ id) × (w ≡ y)). (a.0, lists-inj l d.list (sym (subst (λ (i : View). HasLeft n l i.role) (sym a.1) r) ∙ has) ∙ here.1)) (λ (a : (j ≢ other) × (get_elem? s.views j ≡ some y)). absurd (a.0 ((st.2.2 j y l a.1 r).0 ∙ sym here.0))) a) (view_cases j y f),
            ),
          )

      go : Dec (n ≡ d.who) → CallerStands t.views n list b
      go (yes q) = mine q b (rule.caller n b e)
      go (no no_who) = stands_kept mid other g spent_view still n list b (same_gone n no_who) (stands_kept s.views id v w at n list b (same_pool n no_who) (rule.caller n b e))

  as_is : (role : Role) → RoleFits s (slot_count k) m rule.history k.filers role → RoleFits t (slot_count k) m rule.history k.filers role
  as_is (Pool q) f = f
  as_is (Caller c) f = f
  as_is (Departed c) f = f
  as_is (Note n) f = f
  as_is Spent f = f

  pub gather_keeps : RingRule k t
  gather_keeps =
      let old = rule.role id v at in
      record {
        history = rule.history;
        place = rule.place;
        sized = record { some_filer = rule.sized.some_filer; filers = rule.sized.filers; g = rule.sized.g; slots = rule.sized.slots; berths = rule.sized.berths; cells = rule.sized.cells };
        shaped = λ j y e n. ⊎_elim (λ (r : (j ≡ other) × (spent_view ≡ y)). absurd (n (ap (λ (z : View). z.role) (sym r.1)))) (λ r. ⊎_elim (λ (r : (j ≡ id) × (w ≡ y)). ap (λ (z : View). z.shape) (sym r.1)) (λ (r : (j ≢ other) × (get_elem? s.views j ≡ some y)). rule.shaped j y r.1 n) r) (view_cases j y e);
        legal = rule.legal;
        callers = rule.callers;
        slot = rule.slot;
        named = λ n y e. let a = rule.named n y e in (later (rule.place n) n a.0, a.1);
        alone = λ q n a. rule.alone q n (before q n a);
        caller = callers;
        position = rule.position;
        bound = rule.bound;
        role = λ j y e. ⊎_elim (λ (r : (j ≡ other) × (spent_view ≡ y)). subst (λ (z : View). RoleFits t (slot_count k) m rule.history k.filers z.role) r.1 tt)
            (λ r. ⊎_elim (λ (r : (j ≡ id) × (w ≡ y)). subst (λ (z : View). RoleFits t (slot_count k) m rule.history k.filers z.role) r.1 (length-set p.lists d.who (Some d.list) ∙ old.0, old.1)) (λ (r : (j ≢ other) × (get_elem? s.views j ≡ some y)). as_is y.role (rule.role j y r.1)) r) (view_cases j y e);
        source = rule.source;
        base = rule.base;
      }
