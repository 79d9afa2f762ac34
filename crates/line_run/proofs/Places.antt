-- Places of lists.
use Rattle.std.proofs.Common.{◌≡◌, ◌≢◌, ◌⊎◌, inl, inr, ℕ, suc, zero, ◌+◌, ◌<◌, List, [], ◌∷◌, ◌++◌, length, set, Some, refl, sym, ap, ◌∙◌, arith}
use Rattle.std.specs.Prelude.{slice_get}
use mathlib.Core.Option.{some, some-ne-none, some-injective}
use lib.ListN.{get_elem?, get_or, take, drop}

module _ {A : Type 0} where
  pub at_front : (xs ys : List A) (i : ℕ) (a : A) → get_elem? xs i ≡ some a → get_elem? (xs ++ ys) i ≡ some a
  at_front [] ys i a e = absurd (some-ne-none a (sym e))
  at_front (x ∷ xs) ys zero a e = e
  at_front (x ∷ xs) ys (suc i) a e = at_front xs ys i a e

  pub at_back : (xs ys : List A) (i : ℕ) → get_elem? (xs ++ ys) (length xs + i) ≡ get_elem? ys i
  at_back [] ys i = ap (get_elem? ys) (let h : 0 + i ≡ i = omega arith in h)
  at_back (x ∷ xs) ys i = ap (get_elem? (x ∷ (xs ++ ys))) (let h : length (x ∷ xs) + i ≡ suc (length xs + i) = omega arith in h) ∙ at_back xs ys i

  pub front_is : (xs ys : List A) (i : ℕ) (a : A) → i < length xs → get_elem? (xs ++ ys) i ≡ some a → get_elem? xs i ≡ some a
  front_is [] ys i a low e = absurd (omega arith)
  front_is (x ∷ xs) ys zero a low e = e
  front_is (x ∷ xs) ys (suc i) a low e = front_is xs ys i a (omega arith) e

  pub back_is : (xs ys : List A) (n i : ℕ) (a : A) → length xs ≡ n → get_elem? (xs ++ ys) (n + i) ≡ some a → get_elem? ys i ≡ some a
  back_is xs ys n i a long e = sym (at_back xs ys i) ∙ ap (λ (m : ℕ). get_elem? (xs ++ ys) (m + i)) long ∙ e

  pub to_back : (xs ys : List A) (n i : ℕ) (a : A) → length xs ≡ n → get_elem? ys i ≡ some a → get_elem? (xs ++ ys) (n + i) ≡ some a
  to_back xs ys n i a long e = ap (λ (m : ℕ). get_elem? (xs ++ ys) (m + i)) (sym long) ∙ at_back xs ys i ∙ e

  -- the one element of a list
  pub alone : (x : A) (i : ℕ) (a : A) → get_elem? (x ∷ []) i ≡ some a → (i ≡ zero) × (x ≡ a)
  alone x zero a e = (refl, some-injective x a e)
  alone x (suc i) a e = absurd (some-ne-none a (sym e))

  pub last_at : (xs : List A) (x : A) → get_elem? (xs ++ x ∷ []) (length xs) ≡ some x
  last_at xs x = ap (get_elem? (xs ++ x ∷ [])) (let h : length xs ≡ length xs + 0 = omega arith in h) ∙ at_back xs (x ∷ []) 0

  pub at_exists : (xs : List A) (i : ℕ) → i < length xs → (x : A) × (get_elem? xs i ≡ some x)
  at_exists [] i low = absurd (omega arith)
  at_exists (x ∷ xs) zero low = (x, refl)
  at_exists (x ∷ xs) (suc i) low = at_exists xs i (omega arith)

  pub at_below : (xs : List A) (i : ℕ) (x : A) → get_elem? xs i ≡ some x → i < length xs
  at_below [] i x e = absurd (some-ne-none x (sym e))
  at_below (y ∷ xs) zero x e = omega arith
  at_below (y ∷ xs) (suc i) x e = let h = at_below xs i x e in omega arith

  pub first_at : (xs : List A) (d : A) → 0 < length xs → get_elem? xs 0 ≡ some (get_or xs 0 d)
  first_at [] d low = absurd (omega arith)
  first_at (x ∷ xs) d low = refl

  pub else_as_before : (l : List A) (i j : ℕ) (a : A) → j ≢ i → slice_get (set l i a) j ≡ slice_get l j
  else_as_before [] i j a n = refl
  else_as_before (x ∷ xs) zero zero a n = absurd (n refl)
  else_as_before (x ∷ xs) zero (suc j) a n = refl
  else_as_before (x ∷ xs) (suc i) zero a n = refl
  else_as_before (x ∷ xs) (suc i) (suc j) a n = else_as_before xs i j a (λ e. n (ap suc e))

  pub here_set : (l : List A) (i : ℕ) (a : A) → i < length l → slice_get (set l i a) i ≡ Some a
  here_set [] i a h = absurd (omega arith)
  here_set (x ∷ xs) zero a h = refl
  here_set (x ∷ xs) (suc i) a h = here_set xs i a (omega arith)

  -- an element of a front
  pub taken_at : (n : ℕ) (xs : List A) (i : ℕ) (d : A) → i < length (take n xs) → slice_get (take n xs) i ≡ Some (get_or xs i d)
  taken_at zero xs i d low = absurd (omega arith)
  taken_at (suc n) [] i d low = absurd (omega arith)
  taken_at (suc n) (x ∷ xs) zero d low = refl
  taken_at (suc n) (x ∷ xs) (suc i) d low = taken_at n xs i d (omega arith)

-- a place is in the front or behind it
pub cut : (n i : ℕ) → (i < n) ⊎ ((j : ℕ) × (i ≡ n + j))
cut zero i = inr (i, omega arith)
cut (suc n) zero = inl (omega arith)
cut (suc n) (suc i) = elim (cut n i) [ inl a ↦ inl (omega arith) | inr b ↦ inr (b.0, let e : i ≡ n + b.0 = b.1 in omega arith) ]

-- a vector that was written through its slice
pub written : {A : Type 0} (n : ℕ) (new old : List A) → length new ≡ n → length old ≡ n → take n (new ++ drop (length new) old) ≡ new
written {A} n new old long same = ap (λ (l : List A). take n (new ++ l)) (nothing (length new) old (same ∙ sym long)) ∙ (ap (λ (m : ℕ). take m (new ++ [])) (sym long) ∙ whole new)
  where
    nothing : {A : Type 0} (n : ℕ) (xs : List A) → length xs ≡ n → drop n xs ≡ []
    nothing zero [] e = refl
    nothing zero (x ∷ xs) e = absurd (omega arith)
    nothing (suc n) [] e = absurd (omega arith)
    nothing (suc n) (x ∷ xs) e = nothing n xs (omega arith)

    whole : {A : Type 0} (xs : List A) → take (length xs) (xs ++ []) ≡ xs
    whole [] = refl
    whole {A} (x ∷ xs) = ap (λ (l : List A). x ∷ l) (whole xs)
