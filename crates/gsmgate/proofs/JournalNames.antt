-- One journal's name more.
use Rattle.std.proofs.Common.{◌≡◌, ℕ, zero, suc, ◌+◌, List, [], ◌∷◌, ◌++◌, map, sym, ap, ◌∙◌, add-one, refl, arith, codes}
use Rattle.std.specs.Prelude.{decimal}
use Rattle.command_line.specs.Said.{Text}
use Rattle.gsmgate.specs.Places.{journals_from, journals_of}

names-more : (p : Text) (k n : ℕ) → journals_from p k (suc n) ≡ journals_from p k n ++ (p ++ (codes "." ++ decimal (k + n))) ∷ []
names-more p k zero = ap (λ (i : ℕ). (p ++ (codes "." ++ decimal i)) ∷ []) (let e : k ≡ k + 0 = omega arith in e)
names-more p k (suc n) =
    let e : k + 1 + n ≡ k + suc n = omega arith in
    ap (λ (names : List Text). (p ++ (codes "." ++ decimal k)) ∷ names) (names-more p (k + 1) n ∙ ap (λ (i : ℕ). journals_from p (k + 1) n ++ (p ++ (codes "." ++ decimal i)) ∷ []) e)

map-more : {A B : Type 0} (f : A → B) (xs : List A) (x : A) → map f (xs ++ x ∷ []) ≡ map f xs ++ f x ∷ []
map-more f [] x = refl
map-more f (y ∷ ys) x = ap (λ (zs : List _). f y ∷ zs) (map-more f ys x)

pub journals-more : {A : Type 0} (f : A → Text) (xs : List A) (x : A) (p : Text) (k : ℕ) → map f xs ≡ journals_of p k → f x ≡ p ++ (codes "." ++ decimal k) → map f (xs ++ x ∷ []) ≡ journals_of p (k + 1)
journals-more f xs x p k all one =
    let same : 0 + k ≡ k = omega arith in
    map-more f xs x
    ∙ ap (λ (names : List Text). names ++ f x ∷ []) all
    ∙ ap (λ (name : Text). journals_of p k ++ name ∷ []) one
    ∙ ap (λ (names : List Text). (p ++ codes ".player") ∷ names) (ap (λ (i : ℕ). journals_from p 0 k ++ (p ++ (codes "." ++ decimal i)) ∷ []) (sym same) ∙ sym (names-more p 0 k))
    ∙ ap (journals_of p) (sym (add-one k))
