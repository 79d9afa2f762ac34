-- The filers of a line leave, from the last on.
use Rattle.std.proofs.Common.{◌≡◌, ◌⊎◌, inl, inr, ℕ, zero, ◌+◌, ◌<◌, ◌≤◌, List, [], ◌∷◌, ◌++◌, length, set, Option, Some, refl, sym, ap, ◌∙◌, subst, arith, length-append, length-set}
use Rattle.std.specs.Prelude.{slice_get}
use mathlib.Core.Option.{some, some-ne-none}
use lib.ListN.{get_elem?}
use Rattle.step_table.specs.Packed.{Where}
use Rattle.slot_ring.specs.Seen.{PassView}
use Rattle.line_run.specs.declared.caller.Caller.{Caller}
use Rattle.line_run.specs.Callers.{AreNumbered, GatheredOne, HasLists, HasPass, Lists}
use Rattle.line_run.proofs.Places.{alone, at_front, back_is, cut, else_as_before, front_is, here_set, last_at}

pub same_pass : (x y : PassView) → Path (Option PassView) (Some x) (Some y) → x ≡ y
same_pass x y f = cc

pub last_has : (ring : Where) (cs xs : List Caller) (c : Caller) (n : ℕ) → cs ≡ xs ++ c ∷ [] → n ≡ length xs → AreNumbered ring cs → HasPass ring n c
last_has ring cs xs c n e long all =
    subst (λ (m : ℕ). HasPass ring m c) (sym long) (all (length xs) c (ap (λ (l : List Caller). get_elem? l (length xs)) e ∙ last_at xs c))

pub front_numbered : (ring : Where) (cs xs : List Caller) (c : Caller) → cs ≡ xs ++ c ∷ [] → AreNumbered ring cs → AreNumbered ring xs
front_numbered ring cs xs c e all i d at = all i d (ap (λ (l : List Caller). get_elem? l i) e ∙ at_front xs (c ∷ []) i d at)

pub nothing_left : (before : Lists) → HasLists [] before before
nothing_left before = record { long = refl; has = λ i c x e. absurd (some-ne-none c (sym e)); others = λ i low. refl }

-- the filer's list was put at its place
put_so : (ring : Where) (cs xs : List Caller) (c : Caller) (before mid : Lists) → cs ≡ xs ++ c ∷ [] → AreNumbered ring cs → GatheredOne c before mid
    → (x : PassView) × (c.pass ≡ Some x) × (mid ≡ set before (length xs) (Some x.list))
put_so ring cs xs c before mid e all one =
    let mine = last_has ring cs xs c (length xs) e refl all in
    (mine.0, mine.1, one mine.0 mine.1 ∙ ap (λ (i : ℕ). set before i (Some mine.0.list)) mine.3)

pub still_room : (ring : Where) (cs xs : List Caller) (c : Caller) (before mid : Lists) → cs ≡ xs ++ c ∷ [] → AreNumbered ring cs → length cs ≤ length before → GatheredOne c before mid → length xs ≤ length mid
still_room ring cs xs c before mid e all room one =
    let p = put_so ring cs xs c before mid e all one in
    let many : length cs ≡ length xs + 1 = ap length e ∙ length-append xs (c ∷ []) in
    let long : length mid ≡ length before = ap length p.2 ∙ length-set before (length xs) (Some p.0.list) in
    omega arith

pub one_more : (ring : Where) (cs xs : List Caller) (c : Caller) (before mid after : Lists) → cs ≡ xs ++ c ∷ [] → AreNumbered ring cs → length cs ≤ length before → GatheredOne c before mid → HasLists xs mid after → HasLists cs before after
one_more ring cs xs c before mid after e all room one h =
    let p = put_so ring cs xs c before mid e all one in
    let n : ℕ = length xs in let x : PassView = p.0 in
    let many : length cs ≡ n + 1 = ap length e ∙ length-append xs (c ∷ []) in
    record {
      long = h.long ∙ (ap length p.2 ∙ length-set before n (Some x.list));
      has = λ i d y at is. go n refl x p.2 p.1 (let a : ℕ = length cs in let m : a ≡ n + 1 = many in let l : a ≤ length before = room in omega arith) i d y (ap (λ (l : List Caller). get_elem? l i) (sym e) ∙ at) is (cut n i);
      others = λ i low.
          let a : ℕ = length cs in let m : a ≡ n + 1 = many in let l : a ≤ i = low in
          h.others i (omega arith) ∙ (ap (λ (l : Lists). slice_get l i) p.2 ∙ else_as_before before n i (Some x.list) (λ same. absurd (omega arith)));
    }
  where
    go : (n : ℕ) → length xs ≡ n → (x : PassView) → mid ≡ set before n (Some x.list) → c.pass ≡ Some x → n < length before → (i : ℕ) (d : Caller) (y : PassView) → get_elem? (xs ++ c ∷ []) i ≡ some d → d.pass ≡ Some y → (i < n) ⊎ ((j : ℕ) × (i ≡ n + j)) → slice_get after i ≡ Some (Some y.list)
    go n long x put mine room i d y at is (inl low) = h.has i d y (front_is xs (c ∷ []) i d (subst (λ (m : ℕ). i < m) (sym long) low) at) is
    go n long x put mine room i d y at is (inr u) =
        let one = alone c u.0 d (back_is xs (c ∷ []) n u.0 d long (ap (get_elem? (xs ++ c ∷ [])) (sym u.1) ∙ at)) in
        let here : i ≡ n = u.1 ∙ (let a : ℕ = u.0 in let z : a ≡ zero = one.0 in let r : n + a ≡ n = omega arith in r) in
        let same : x ≡ y = same_pass x y (sym mine ∙ (ap (λ (e : Caller). e.pass) one.1 ∙ is)) in
        ap (slice_get after) here ∙ (h.others n (let m : length xs ≡ n = long in omega arith) ∙ (ap (λ (l : Lists). slice_get l n) put ∙ (here_set before n (Some x.list) room ∙ ap (λ (z : PassView). Some (Some z.list)) same)))
