-- A split of a pool keeps the rule.
use Rattle.std.proofs.Common.{◌≡◌, ◌≢◌, ◌⊎◌, inl, inr, ⊎_elim, ℕ, suc, zero, ◌+◌, List, [], ◌∷◌, ◌++◌, set, length, Option, Some, None, true, false, true≢false, refl, sym, ap, ◌∙◌, subst, arith, length-set}
use Rattle.std.proofs.lemmas.List.{length-replicate}
use Rattle.std.specs.Prelude.{slice_get, replicate}
use native.Mathlib.Decide.{ℕ_discrete}
use mathlib.Core.Option.{some, some-ne-none, some-injective}
use lib.ListN.{get_elem?}
use Rattle.ring_core.proofs.Elements.{at_set, set_else, at_longer}
use Rattle.playout.specs.declared.call.Call.{Call}
use Rattle.ring_core.specs.declared.views.Shape.{Shape}
use Rattle.ring_core.specs.declared.views.Pooling.{Pooling}
use Rattle.ring_core.specs.declared.views.Calling.{Calling}
use Rattle.ring_core.specs.declared.views.Role.{Role}
use Rattle.ring_core.specs.declared.views.Role.TheVariants.{Pool, Caller, Departed, Note, Spent}
use Rattle.ring_core.specs.declared.views.View.{View}
use Rattle.playout.specs.Machine.{Machine, opening_machine}
use Rattle.playout.specs.History.{after_all, calls_of}
use Rattle.ring_core.specs.declared.words.Berth.{Berth}
use Rattle.ring_core.specs.declared.words.Berth.TheVariants.{Fresh, Out, Home}
use Rattle.ring_core.specs.Ring.{Ring, slot_count, Place, in_slot, in_berth, with_seat, Names, HasRight, IsCalling, HasLeft, NoneMeets, JustOne, CallerStands, RoleFits, RingRule}
use Rattle.ring_core.specs.Steps.{pool_view, without, only, split_at}
use Rattle.ring_core.specs.ListPlaces.{at_one}
use Rattle.ring_core.proofs.Seats.{Same, stands_kept}

module _ {A : Type 0} where
  pub at_end : (l : List A) (a b : A) (j : ℕ) → get_elem? (l ++ a ∷ []) j ≡ some b → (get_elem? l j ≡ some b) ⊎ ((j ≡ length l) × (a ≡ b))
  at_end [] a b zero e = inr (refl, some-injective a b e)
  at_end [] a b (suc j) e = absurd (some-ne-none b (sym e))
  at_end (x ∷ xs) a b zero e = inl e
  at_end (x ∷ xs) a b (suc j) e = ⊎_elim (λ t. inl t) (λ (t : (j ≡ length xs) × (a ≡ b)). inr (ap suc t.0, t.1)) (at_end xs a b j e)

  pub get_set : (l : List A) (i j : ℕ) (a b : A) → slice_get (set l i a) j ≡ Some b → ((j ≡ i) × (a ≡ b)) ⊎ ((j ≢ i) × (slice_get l j ≡ Some b))
  get_set [] i j a b e = absurd (cc)
  get_set (x ∷ xs) zero zero a b e = inl (refl, just a b e)
    where
      just : (a b : A) → Path (Option A) (Some a) (Some b) → a ≡ b
      just a b e = cc
  get_set (x ∷ xs) zero (suc j) a b e = inr ((λ h. omega arith), e)
  get_set (x ∷ xs) (suc i) zero a b e = inr ((λ h. omega arith), e)
  get_set (x ∷ xs) (suc i) (suc j) a b e = ⊎_elim (λ t. inl (ap suc t.0, t.1)) (λ t. let n = t.0 in inr ((λ h. n (omega arith)), t.1)) (get_set xs i j a b e)

  pub get_replicate : (n j : ℕ) (a b : A) → slice_get (replicate n a) j ≡ Some b → a ≡ b
  get_replicate zero j a b e = absurd (cc)
  get_replicate (suc n) zero a b e = just a b e
    where
      just : (a b : A) → Path (Option A) (Some a) (Some b) → a ≡ b
      just a b e = cc
  get_replicate (suc n) (suc j) a b e = get_replicate n j a b e

-- a new view that says nothing of a caller
pub stands_longer : (views : List View) (x : View) (who : ℕ) (list : List Call) (b : Berth) → (HasRight who x.role → ⊥) → ((l : List Call) → IsCalling who l x.role → ⊥) → ((l : List Call) → HasLeft who l x.role → ⊥)
    → CallerStands views who list b → CallerStands (views ++ x ∷ []) who list b
stands_longer views x who list b no_right no_calling no_left s = go b s
  where
    right_in : (j : ℕ) (v : View) → get_elem? (views ++ x ∷ []) j ≡ some v → HasRight who v.role → get_elem? views j ≡ some v
    right_in j v e r = ⊎_elim (λ (t : get_elem? views j ≡ some v). t) (λ (t : (j ≡ length views) × (x ≡ v)). absurd (no_right (subst (λ (u : View). HasRight who u.role) (sym t.1) r))) (at_end views x v j e)

    none : (meets : List Call → Role → Type 0) → ((l : List Call) → meets l x.role → ⊥) → NoneMeets views meets → NoneMeets (views ++ x ∷ []) meets
    none meets not s j v l e m = ⊎_elim (λ (t : get_elem? views j ≡ some v). s j v l t m) (λ (t : (j ≡ length views) × (x ≡ v)). not l (subst (λ (u : View). meets l u.role) (sym t.1) m)) (at_end views x v j e)

    one : (meets : List Call → Role → Type 0) → ((l : List Call) → meets l x.role → ⊥) → JustOne views meets list → JustOne (views ++ x ∷ []) meets list
    one meets not s = (
      s.0,
      (s.1.0, at_longer views (x ∷ []) s.0 s.1.0 s.1.1, s.1.2),
      λ j v l e m. ⊎_elim (λ (t : get_elem? views j ≡ some v). s.2 j v l t m) (λ (t : (j ≡ length views) × (x ≡ v)). absurd (not l (subst (λ (u : View). meets l u.role) (sym t.1) m))) (at_end views x v j e),
    )

    go : (b : Berth) → CallerStands views who list b → CallerStands (views ++ x ∷ []) who list b
    go (Fresh c) s = (s.0, none (IsCalling who) no_calling s.1, none (HasLeft who) no_left s.2, λ i j v w e f p q. s.3 i j v w (right_in i v e p) (right_in j w f q) p q)
    go Out s = ((λ j v e r. s.0 j v (right_in j v e r) r), one (IsCalling who) no_calling s.1, none (HasLeft who) no_left s.2)
    go (Home c) s = ((λ j v e r. s.0 j v (right_in j v e r) r), none (IsCalling who) no_calling s.1, one (HasLeft who) no_left s.2)

module _ (k : Shape) (s : Ring) (rule : RingRule k s) (id : ℕ) (p : Pooling) (who : ℕ) (at : get_elem? s.views id ≡ some (pool_view k p)) (has : slice_get p.rights who ≡ Some true) where
  abbrev v : View
  v = pool_view k p

  abbrev u : View
  u = pool_view k (without p who)

  abbrev x : View
  x = pool_view k (only k who)

  abbrev t : Ring
  t = split_at k s id p who

  abbrev mid : List View
  mid = set s.views id u

  abbrev m : Machine
  m = after_all opening_machine rule.history

  pool_caller : (q : Pooling) (c : Calling) → Path Role (Pool q) (Caller c) → ⊥
  pool_caller q c e = cc

  -- a view of the new ring is the first pool's, the second's, or an old one
  pub view_cases : (j : ℕ) (y : View) → get_elem? t.views j ≡ some y → ((j ≡ id) × (u ≡ y)) ⊎ (((j ≢ id) × (get_elem? s.views j ≡ some y)) ⊎ ((j ≡ length mid) × (x ≡ y)))
  view_cases j y e =
      ⊎_elim
      (λ (q : get_elem? mid j ≡ some y). ⊎_elim (λ (r : (j ≡ id) × (u ≡ y)). inl r) (λ (r : (j ≢ id) × (get_elem? s.views j ≡ some y)). inr (inl r)) (at_set s.views id j u y q))
      (λ (q : (j ≡ length mid) × (x ≡ y)). inr (inr q))
      (at_end mid x y j e)

  names_before : (q : Place) (n : ℕ) → Names t q n → Names s q n
  names_before (in_slot j) n a = a
  names_before (in_berth j) n a = a
  names_before (with_seat j) n a =
      ⊎_elim
      (λ (r : (j ≡ id) × (u ≡ a.0)). absurd (pool_caller (without p who) a.1 (ap (λ (y : View). y.role) r.1 ∙ a.3)))
      (λ r. ⊎_elim (λ (r : (j ≢ id) × (get_elem? s.views j ≡ some a.0)). (a.0, a.1, r.1, a.3, a.4)) (λ (r : (j ≡ length mid) × (x ≡ a.0)). absurd (pool_caller (only k who) a.1 (ap (λ (y : View). y.role) r.1 ∙ a.3))) r)
      (view_cases j a.0 a.2)

  names_after : (q : Place) (n : ℕ) → Names s q n → Names t q n
  names_after (in_slot j) n a = a
  names_after (in_berth j) n a = a
  names_after (with_seat j) n a =
      let other : j ≢ id = λ e. pool_caller p a.1 (ap (λ (y : View). y.role) (at_one s.views id v a.0 at (subst (λ (i : ℕ). get_elem? s.views i ≡ some a.0) e a.2)) ∙ a.3) in
      (a.0, a.1, at_longer mid (x ∷ []) j a.0 (set_else s.views id j u other ∙ a.2), a.3, a.4)

  no_list : (n : ℕ) (l : List Call) → HasLeft n l x.role → ⊥
  no_list n l e = cc-none (get_replicate (k.filers + 1) n None (Some l) e)
    where
      cc-none : Path (Option (List Call)) None (Some l) → ⊥
      cc-none e = cc

  same_other : (n : ℕ) → n ≢ who → Same n v.role u.role
  same_other n other =
      record {
        right = λ r. ⊎_elim (λ (q : (n ≡ who) × (false ≡ true)). absurd (other q.0)) (λ (q : (n ≢ who) × (slice_get p.rights n ≡ Some true)). q.1) (get_set p.rights who n false true r);
        calling = λ l a. a;
        calling_back = λ l a. a;
        left = λ l a. a;
        left_back = λ l a. a;
      }

  only_that : (n : ℕ) → n ≢ who → HasRight n x.role → ⊥
  only_that n other r =
      ⊎_elim (λ (q : (n ≡ who) × (true ≡ true)). other q.0) (λ (q : (n ≢ who) × (slice_get (replicate (k.filers + 1) false) n ≡ Some true)). true≢false (sym (get_replicate (k.filers + 1) n false true q.1)))
      (get_set (replicate (k.filers + 1) false) who n true true r)

  callers : (n : ℕ) (b : Berth) → get_elem? s.berths n ≡ some b → CallerStands t.views n (calls_of n rule.history) b
  callers n b e = go (ℕ_discrete n who)
    where
      list : List Call
      list = calls_of n rule.history

      there : n ≡ who → HasRight n v.role
      there q = subst (λ (i : ℕ). slice_get p.rights i ≡ Some true) (sym q) has

      lost : n ≡ who → (j : ℕ) (y : View) → ((i : ℕ) (z : View) → get_elem? s.views i ≡ some z → HasRight n z.role → i ≡ id) → get_elem? t.views j ≡ some y → HasRight n y.role → j ≡ length mid
      lost q j y unique f r =
          ⊎_elim
          (λ (a : (j ≡ id) × (u ≡ y)). absurd (⊎_elim (λ (c : (n ≡ who) × (false ≡ true)). true≢false (sym c.1)) (λ (c : (n ≢ who) × (slice_get p.rights n ≡ Some true)). c.0 q) (get_set p.rights who n false true (subst (λ (z : View). HasRight n z.role) (sym a.1) r))))
          (λ a. ⊎_elim (λ (a : (j ≢ id) × (get_elem? s.views j ≡ some y)). absurd (a.0 (unique j y a.1 r))) (λ (a : (j ≡ length mid) × (x ≡ y)). a.0) a)
          (view_cases j y f)

      quiet : (meets : List Call → Role → Type 0) → NoneMeets s.views meets → ((l : List Call) → meets l u.role → meets l v.role) → ((l : List Call) → meets l x.role → ⊥) → NoneMeets t.views meets
      quiet meets none back not j y l f a =
          ⊎_elim
          (λ (c : (j ≡ id) × (u ≡ y)). none id v l at (back l (subst (λ (z : View). meets l z.role) (sym c.1) a)))
          (λ c. ⊎_elim (λ (c : (j ≢ id) × (get_elem? s.views j ≡ some y)). none j y l c.1 a) (λ (c : (j ≡ length mid) × (x ≡ y)). not l (subst (λ (z : View). meets l z.role) (sym c.1) a)) c)
          (view_cases j y f)

      mine : n ≡ who → (b : Berth) → CallerStands s.views n list b → CallerStands t.views n list b
      mine q (Fresh c) st =
          let unique : (i : ℕ) (z : View) → get_elem? s.views i ≡ some z → HasRight n z.role → i ≡ id = λ i z f r. st.3 i id z v f at r (there q) in (
            st.0,
            quiet (IsCalling n) st.1 (λ l a. a) (λ l a. a),
            quiet (HasLeft n) st.2 (λ l a. a) (no_list n),
            λ i j y z f g r r'. lost q i y unique f r ∙ sym (lost q j z unique g r'),
          )
      mine q Out st = absurd (st.0 id v at (there q))
      mine q (Home c) st = absurd (st.0 id v at (there q))

      go : Dec (n ≡ who) → CallerStands t.views n list b
      go (yes q) = mine q b (rule.caller n b e)
      go (no other) = stands_longer mid x n list b (only_that n other) (λ l a. a) (no_list n) (stands_kept s.views id v u at n list b (same_other n other) (rule.caller n b e))

  role_as_is : (role : Role) → RoleFits s (slot_count k) m rule.history k.filers role → RoleFits t (slot_count k) m rule.history k.filers role
  role_as_is (Pool q) f = f
  role_as_is (Caller c) f = f
  role_as_is (Departed d) f = f
  role_as_is (Note n) f = f
  role_as_is Spent f = f

  pub split_keeps : RingRule k t
  split_keeps =
      let old = rule.role id v at in
      record {
        history = rule.history;
        place = rule.place;
        sized = record { some_filer = rule.sized.some_filer; filers = rule.sized.filers; g = rule.sized.g; slots = rule.sized.slots; berths = rule.sized.berths; cells = rule.sized.cells };
        shaped = λ j y e n. ⊎_elim (λ (r : (j ≡ id) × (u ≡ y)). ap (λ (z : View). z.shape) (sym r.1)) (λ r. ⊎_elim (λ (r : (j ≢ id) × (get_elem? s.views j ≡ some y)). rule.shaped j y r.1 n) (λ (r : (j ≡ length mid) × (x ≡ y)). ap (λ (z : View). z.shape) (sym r.1)) r) (view_cases j y e);
        legal = rule.legal;
        callers = rule.callers;
        slot = rule.slot;
        named = λ n y e. let a = rule.named n y e in (names_after (rule.place n) n a.0, a.1);
        alone = λ q n a. rule.alone q n (names_before q n a);
        caller = callers;
        position = rule.position;
        bound = rule.bound;
        role = λ j y e. ⊎_elim (λ (r : (j ≡ id) × (u ≡ y)). subst (λ (z : View). RoleFits t (slot_count k) m rule.history k.filers z.role) r.1 (old.0, length-set p.rights who false ∙ old.1))
            (λ r. ⊎_elim (λ (r : (j ≢ id) × (get_elem? s.views j ≡ some y)). role_as_is y.role (rule.role j y r.1))
            (λ (r : (j ≡ length mid) × (x ≡ y)). subst (λ (z : View). RoleFits t (slot_count k) m rule.history k.filers z.role) r.1 (length-replicate (k.filers + 1) None, length-set (replicate (k.filers + 1) false) who true ∙ length-replicate (k.filers + 1) false)) r) (view_cases j y e);
        source = rule.source;
        base = rule.base;
      }
