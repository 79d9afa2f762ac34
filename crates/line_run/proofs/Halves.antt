-- Two halves of the filers.
use Rattle.std.proofs.Common.{◌≡◌, ◌⊎◌, inl, inr, ℕ, suc, zero, ◌+◌, ◌<◌, List, [], ◌∷◌, ◌++◌, length, refl, sym, ap, ◌∙◌, subst, arith, length-append, set, length-set}
use mathlib.Core.Option.{some, some-ne-none, some-injective}
use lib.ListN.{get_elem?}
use Rattle.line_run.specs.Fan.{Each, AtEach}
use Rattle.line_run.proofs.Places.{at_back, at_front, back_is, cut, front_is, to_back}

pub each_front : {A : Type 0} (has : A → Type 0) (xs ys : List A) → AtEach has (xs ++ ys) → AtEach has xs
each_front has xs ys all i a e = all i a (at_front xs ys i a e)

pub each_back : {A : Type 0} (has : A → Type 0) (xs ys : List A) → AtEach has (xs ++ ys) → AtEach has ys
each_back has xs ys all i a e = all (length xs + i) a (at_back xs ys i ∙ e)

both : {A P J : Type 0} (ran : A → P → J → A → P → J → Type 0) (a b : List A) (p q : List P) (j k : List J) (a' b' : List A) (p' q' : List P) (j' k' : List J)
    → length p ≡ length a → length j ≡ length a → Each ran a p j a' p' j' → Each ran b q k b' q' k' → Each ran (a ++ b) (p ++ q) (j ++ k) (a' ++ b') (p' ++ q') (j' ++ k')
both {A} {P} {J} ran a b p q j k a' b' p' q' j' k' lp lj x y =
    record {
      callers = length-append a' b' ∙ (λ i. x.callers i + y.callers i) ∙ sym (length-append a b);
      links = length-append p' q' ∙ (λ i. x.links i + y.links i) ∙ sym (length-append p q);
      journals = length-append j' k' ∙ (λ i. x.journals i + y.journals i) ∙ sym (length-append j k);
      each = λ i c l m ec el em. at i c l m ec el em (cut (length a) i);
    }
  where
    Goal : ℕ → A → P → J → Type 0
    Goal i c l m = (c' : A) × (l' : P) × (m' : J) × (get_elem? (a' ++ b') i ≡ some c') × (get_elem? (p' ++ q') i ≡ some l') × (get_elem? (j' ++ k') i ≡ some m') × ran c l m c' l' m'

    at : (i : ℕ) (c : A) (l : P) (m : J) → get_elem? (a ++ b) i ≡ some c → get_elem? (p ++ q) i ≡ some l → get_elem? (j ++ k) i ≡ some m → (i < length a) ⊎ ((n : ℕ) × (i ≡ length a + n)) → Goal i c l m
    at i c l m ec el em (inl low) =
        let low_p : i < length p = subst (λ (n : ℕ). i < n) (sym lp) low in let low_j : i < length j = subst (λ (n : ℕ). i < n) (sym lj) low in
        let h = x.each i c l m (front_is a b i c low ec) (front_is p q i l low_p el) (front_is j k i m low_j em) in
        (h.0, h.1, h.2, at_front a' b' i h.0 h.3, at_front p' q' i h.1 h.4, at_front j' k' i h.2 h.5, h.6)
    at i c l m ec el em (inr u) =
        let n : ℕ = u.0 in
        let h = y.each n c l m (back_is a b (length a) n c refl (ap (get_elem? (a ++ b)) (sym u.1) ∙ ec)) (back_is p q (length a) n l lp (ap (get_elem? (p ++ q)) (sym u.1) ∙ el)) (back_is j k (length a) n m lj (ap (get_elem? (j ++ k)) (sym u.1) ∙ em)) in
        subst (λ (z : ℕ). Goal z c l m) (sym u.1)
        (h.0, h.1, h.2, to_back a' b' (length a) n h.0 x.callers h.3, to_back p' q' (length a) n h.1 (x.links ∙ lp) h.4, to_back j' k' (length a) n h.2 (x.journals ∙ lj) h.5, h.6)

-- the same of the whole lists
pub joined : {A P J : Type 0} (ran : A → P → J → A → P → J → Type 0) (cs a b : List A) (ps p q : List P) (js j k : List J) (a' b' : List A) (p' q' : List P) (j' k' : List J)
    → cs ≡ a ++ b → ps ≡ p ++ q → js ≡ j ++ k → length p ≡ length a → length j ≡ length a → Each ran a p j a' p' j' → Each ran b q k b' q' k' → Each ran cs ps js (a' ++ b') (p' ++ q') (j' ++ k')
joined {A} {P} {J} ran cs a b ps p q js j k a' b' p' q' j' k' ec ep ej lp lj x y =
    subst (λ (t : List A × List P × List J). Each ran t.0 t.1 t.2 (a' ++ b') (p' ++ q') (j' ++ k')) (λ i. (sym ec i, sym ep i, sym ej i)) (both ran a b p q j k a' b' p' q' j' k' lp lj x y)

-- one filer alone
pub single : {A P J : Type 0} (ran : A → P → J → A → P → J → Type 0) (cs : List A) (ps : List P) (js : List J) (a a' : A) (p p' : P) (j j' : J)
    → length cs ≡ 1 → length ps ≡ 1 → length js ≡ 1 → get_elem? cs 0 ≡ some a → get_elem? ps 0 ≡ some p → get_elem? js 0 ≡ some j → ran a p j a' p' j'
    → Each ran cs ps js (set cs 0 a') (set ps 0 p') (set js 0 j')
single {A} {P} {J} ran cs ps js a a' p p' j j' lc lp lj ec ep ej h =
    record {
      callers = length-set cs 0 a';
      links = length-set ps 0 p';
      journals = length-set js 0 j';
      each = λ i c l m fc fl fm. at i c l m (low cs i c lc fc) fc fl fm;
    }
  where
    low : {T : Type 0} (xs : List T) (i : ℕ) (x : T) → length xs ≡ 1 → get_elem? xs i ≡ some x → i ≡ zero
    low [] i x n e = absurd (some-ne-none x (sym e))
    low (y ∷ ys) zero x n e = refl
    low (y ∷ []) (suc i) x n e = absurd (some-ne-none x (sym e))
    low (y ∷ z ∷ ys) (suc i) x n e = absurd (omega arith)

    put : {T : Type 0} (xs : List T) (x y : T) → get_elem? xs 0 ≡ some x → get_elem? (set xs 0 y) 0 ≡ some y
    put [] x y e = absurd (some-ne-none x (sym e))
    put (z ∷ xs) x y e = refl

    Goal : ℕ → A → P → J → Type 0
    Goal i c l m = (c' : A) × (l' : P) × (m' : J) × (get_elem? (set cs 0 a') i ≡ some c') × (get_elem? (set ps 0 p') i ≡ some l') × (get_elem? (set js 0 j') i ≡ some m') × ran c l m c' l' m'

    at : (i : ℕ) (c : A) (l : P) (m : J) → i ≡ zero → get_elem? cs i ≡ some c → get_elem? ps i ≡ some l → get_elem? js i ≡ some m → Goal i c l m
    at i c l m z fc fl fm =
        let sc : c ≡ a = some-injective c a (sym fc ∙ ap (get_elem? cs) z ∙ ec) in
        let sp : l ≡ p = some-injective l p (sym fl ∙ ap (get_elem? ps) z ∙ ep) in
        let sj : m ≡ j = some-injective m j (sym fm ∙ ap (get_elem? js) z ∙ ej) in
        subst (λ (t : ℕ). Goal t c l m) (sym z)
        (a', p', j', put cs a a' ec, put ps p p' ep, put js j j' ej, subst (λ (q : A × P × J). ran q.0 q.1 q.2 a' p' j') (λ k. (sym sc k, sym sp k, sym sj k)) h)
