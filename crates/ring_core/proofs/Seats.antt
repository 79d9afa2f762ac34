-- What stays of the rule's clauses on views where one view changes.
use Rattle.std.proofs.Common.{◌≡◌, ◌≢◌, ⊎_elim, ℕ, suc, zero, ◌%◌, ◌<◌, ◌≤◌, List, [], ◌∷◌, ◌++◌, set, length, Option, Some, None, false, refl, sym, ap, ◌∙◌, subst, arith}
use native.Mathlib.Decide.{ℕ_discrete}
use mathlib.Core.Option.{some, some-ne-none}
use lib.ListN.{get_elem?}
use Rattle.ring_core.proofs.Elements.{at_set, set_else}
use Rattle.playout.specs.declared.call.Call.{Call}
use Rattle.ring_core.specs.declared.views.Known.{Known}
use Rattle.ring_core.specs.declared.views.Flight.{Flight}
use Rattle.ring_core.specs.declared.views.Calling.{Calling}
use Rattle.ring_core.specs.declared.views.Role.{Role}
use Rattle.ring_core.specs.declared.views.Role.TheVariants.{Caller}
use Rattle.ring_core.specs.declared.views.View.{View}
use Rattle.playout.specs.Machine.{Machine}
use Rattle.playout.specs.History.{Entry}
use Rattle.ring_core.specs.declared.words.SlotWord.{SlotWord}
use Rattle.ring_core.specs.declared.words.Berth.{Berth}
use Rattle.ring_core.specs.declared.words.Berth.TheVariants.{Fresh, Out, Home}
use Rattle.ring_core.specs.Ring.{HasRight, IsCalling, HasLeft, JustOne, NoneMeets, CallerStands, KnownFits, FlightFits}
use Rattle.ring_core.specs.ListPlaces.{at_one}
use Rattle.playout.specs.LongerHistory.{all_accepted-longer}

module _ {A : Type 0} where
  pub set_at : (l : List A) (i : ℕ) (a b : A) → get_elem? l i ≡ some a → get_elem? (set l i b) i ≡ some b
  set_at [] i a b e = absurd (some-ne-none a (sym e))
  set_at (x ∷ xs) zero a b e = refl
  set_at (x ∷ xs) (suc i) a b e = set_at xs i a b e

  pub at_below : (l : List A) (i : ℕ) (a : A) → get_elem? l i ≡ some a → i < length l
  at_below [] i a e = absurd (some-ne-none a (sym e))
  at_below (x ∷ xs) zero a e = omega arith
  at_below (x ∷ xs) (suc i) a e = let k = at_below xs i a e in omega arith

-- two roles say the same of a caller
pub record Same (who : ℕ) (a b : Role) : Type 0 where
  pub right : HasRight who b → HasRight who a
  pub calling : (l : List Call) → IsCalling who l b → IsCalling who l a
  pub calling_back : (l : List Call) → IsCalling who l a → IsCalling who l b
  pub left : (l : List Call) → HasLeft who l b → HasLeft who l a
  pub left_back : (l : List Call) → HasLeft who l a → HasLeft who l b

module _ (views : List View) (id : ℕ) (v w : View) (at : get_elem? views id ≡ some v) where
  none_set : (meets : List Call → Role → Type 0) → NoneMeets views meets → ((l : List Call) → meets l w.role → ⊥) → NoneMeets (set views id w) meets
  none_set meets none not j x l e m =
      ⊎_elim (λ (t : (j ≡ id) × (w ≡ x)). not l (subst (λ (y : View). meets l y.role) (sym t.1) m)) (λ (t : (j ≢ id) × (get_elem? views j ≡ some x)). none j x l t.1 m) (at_set views id j w x e)

  just_set : (meets : List Call → Role → Type 0) (list : List Call) → JustOne views meets list → ((l : List Call) → meets l w.role → meets l v.role) → ((l : List Call) → meets l v.role → meets l w.role) → JustOne (set views id w) meets list
  just_set meets list one back on = (one.0, there (ℕ_discrete one.0 id), alone)
    where
      there : Dec (one.0 ≡ id) → (x : View) × (get_elem? (set views id w) one.0 ≡ some x) × meets list x.role
      there (yes e) = (w, subst (λ (z : ℕ). get_elem? (set views id w) z ≡ some w) (sym e) (set_at views id v w at), on list (subst (λ (x : View). meets list x.role) (at_one views id one.1.0 v (subst (λ (z : ℕ). get_elem? views z ≡ some one.1.0) e one.1.1) at) one.1.2))
      there (no n) = (one.1.0, set_else views id one.0 w n ∙ one.1.1, one.1.2)

      alone : (other : ℕ) (x : View) (l : List Call) → get_elem? (set views id w) other ≡ some x → meets l x.role → (other ≡ one.0) × (l ≡ list)
      alone other x l e m =
          ⊎_elim
          (λ (t : (other ≡ id) × (w ≡ x)). one.2 other v l (subst (λ (z : ℕ). get_elem? views z ≡ some v) (sym t.0) at) (back l (subst (λ (y : View). meets l y.role) (sym t.1) m)))
          (λ (t : (other ≢ id) × (get_elem? views other ≡ some x)). one.2 other x l t.1 m)
          (at_set views id other w x e)

  no_right_set : (who : ℕ) → ((j : ℕ) (x : View) → get_elem? views j ≡ some x → HasRight who x.role → ⊥) → (HasRight who w.role → ⊥) → (j : ℕ) (x : View) → get_elem? (set views id w) j ≡ some x → HasRight who x.role → ⊥
  no_right_set who none not j x e r =
      ⊎_elim (λ (t : (j ≡ id) × (w ≡ x)). not (subst (λ (y : View). HasRight who y.role) (sym t.1) r)) (λ (t : (j ≢ id) × (get_elem? views j ≡ some x)). none j x t.1 r) (at_set views id j w x e)

  -- who has the right in the new views had it before
  right_before : (who j : ℕ) (x : View) → (HasRight who w.role → HasRight who v.role) → get_elem? (set views id w) j ≡ some x → HasRight who x.role → (y : View) × (get_elem? views j ≡ some y) × HasRight who y.role
  right_before who j x back e r =
      ⊎_elim
      (λ (t : (j ≡ id) × (w ≡ x)). (v, subst (λ (z : ℕ). get_elem? views z ≡ some v) (sym t.0) at, back (subst (λ (y : View). HasRight who y.role) (sym t.1) r)))
      (λ (t : (j ≢ id) × (get_elem? views j ≡ some x)). (x, t.1, r))
      (at_set views id j w x e)

  -- a caller of whom the old and the new view say the same
  pub stands_kept : (who : ℕ) (list : List Call) (b : Berth) → Same who v.role w.role → CallerStands views who list b → CallerStands (set views id w) who list b
  stands_kept who list (Fresh cell) same s =
      let calling : (l : List Call) → IsCalling who l w.role → ⊥ = λ l m. s.1 id v l at (same.calling l m) in
      let left : (l : List Call) → HasLeft who l w.role → ⊥ = λ l m. s.2 id v l at (same.left l m) in (
        s.0,
        none_set (IsCalling who) s.1 calling,
        none_set (HasLeft who) s.2 left,
        λ one two x y e f p q. let a = right_before who one x same.right e p in let b = right_before who two y same.right f q in s.3 one two a.0 b.0 a.1 b.1 a.2 b.2,
      )
  stands_kept who list Out same s =
      let left : (l : List Call) → HasLeft who l w.role → ⊥ = λ l m. s.2 id v l at (same.left l m) in (
        no_right_set who s.0 (λ r. s.0 id v at (same.right r)),
        just_set (IsCalling who) list s.1 same.calling same.calling_back,
        none_set (HasLeft who) s.2 left,
      )
  stands_kept who list (Home cell) same s =
      let calling : (l : List Call) → IsCalling who l w.role → ⊥ = λ l m. s.1 id v l at (same.calling l m) in (
        no_right_set who s.0 (λ r. s.0 id v at (same.right r)),
        none_set (IsCalling who) s.1 calling,
        just_set (HasLeft who) list s.2 same.left same.left_back,
      )

-- the caller of a view: its berth is out, its list is the history's, and so it stays with a longer list
pub calling_kept : (views : List View) (id : ℕ) (v w : View) (c d : Calling) (list longer : List Call) (b : Berth) → get_elem? views id ≡ some v → v.role ≡ Caller c → w.role ≡ Caller d → d.who ≡ c.who → d.list ≡ longer
    → CallerStands views c.who list b → (c.list ≡ list) × CallerStands (set views id w) c.who longer b
calling_kept views id v w c d list longer b at is will who new s = go b s
  where
    mine : IsCalling c.who c.list v.role
    mine = subst (IsCalling c.who c.list) (sym is) (refl, refl)

    go : (b : Berth) → CallerStands views c.who list b → (c.list ≡ list) × CallerStands (set views id w) c.who longer b
    go (Fresh cell) s = absurd (s.1 id v c.list at mine)
    go (Home cell) s = absurd (s.1 id v c.list at mine)
    go Out s =
        let here = s.1.2 id v c.list at mine in
        let now : IsCalling c.who longer w.role = subst (IsCalling c.who longer) (sym will) (who, new) in (
          here.1,
          (
            no_right_set views id v w at c.who s.0 (λ r. subst (HasRight c.who) will r),
            (
              id,
              (w, set_at views id v w at, now),
              λ other x l e m. ⊎_elim
                  (λ (t : (other ≡ id) × (w ≡ x)). (t.0, (let p : IsCalling c.who l (Caller d) = subst (IsCalling c.who l) (ap (λ (y : View). y.role) (sym t.1) ∙ will) m in sym p.1 ∙ new)))
                  (λ (t : (other ≢ id) × (get_elem? views other ≡ some x)). absurd (t.0 ((s.1.2 other x l t.1 m).0 ∙ sym here.0)))
                  (at_set views id other w x e),
            ),
            none_set views id v w at (HasLeft c.who) s.2 (λ l m. subst (HasLeft c.who l) will m),
          ),
        )

-- what is known stays so where the history grows
pub known_kept : (sw bw : ℕ) (m n : Machine) (h : List Entry) (e : Entry) (k : Known) → m.position ≤ n.position → KnownFits sw bw m h k → KnownFits sw bw n (h ++ e ∷ []) k
known_kept sw bw m n h e k le f = let a = f.position in record { pairs = all_accepted-longer k.pairs h e f.pairs; position = omega arith; source = f.source; base = f.base }

-- a flight stays where a word goes on to a later number, or is filled
pub flight_kept : (r : ℕ) (slots : List SlotWord) (i : ℕ) (w x : SlotWord) (f : Option Flight) → get_elem? slots i ≡ some w → w.number ≤ x.number → ((n : ℕ) → n ≤ w.number → x.number ≡ n → x.filled ≡ false → ⊥) → FlightFits r slots f → FlightFits r (set slots i x) f
flight_kept r slots i w x None at le never fits = tt
flight_kept r slots i w x (Some f) at le never fits = go (ℕ_discrete (f.number % r) i)
  where
    go : Dec (f.number % r ≡ i) → FlightFits r (set slots i x) (Some f)
    go (yes e) =
        let here : get_elem? slots (f.number % r) ≡ some w = subst (λ (z : ℕ). get_elem? slots z ≡ some w) (sym e) at in
        let is : fits.0 ≡ w = at_one slots (f.number % r) fits.0 w fits.1 here in
        let low : f.number ≤ w.number = subst (λ (z : SlotWord). f.number ≤ z.number) is fits.2 in (
          x,
          subst (λ (z : ℕ). get_elem? (set slots z x) (f.number % r) ≡ some x) e (set_at slots (f.number % r) w x here),
          omega arith,
          λ same free. absurd (never f.number low same free),
        )
    go (no n) = (fits.0, set_else slots i (f.number % r) x n ∙ fits.1, fits.2, fits.3)
