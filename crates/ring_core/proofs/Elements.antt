-- Lists by place: an element put, and a list made longer.
use Rattle.std.proofs.Common.{◌≡◌, ◌≢◌, ◌⊎◌, inl, inr, ⊎_elim, ℕ, zero, suc, ◌<◌, ◌≤◌, List, [], ◌∷◌, ◌++◌, set, length, get_or, refl, sym, ap, arith}
use mathlib.Core.Option.{some, none, some-ne-none, some-injective}
use lib.ListN.{get_elem?}

module _ {A : Type 0} where
  -- what stands at j once a was put at i
  pub at_set : (l : List A) (i j : ℕ) (a b : A) → get_elem? (set l i a) j ≡ some b → ((j ≡ i) × (a ≡ b)) ⊎ ((j ≢ i) × (get_elem? l j ≡ some b))
  at_set [] i j a b there = absurd (some-ne-none b (sym there))
  at_set (x ∷ l) zero zero a b there = inl (refl, some-injective a b there)
  at_set (x ∷ l) zero (suc j) a b there = inr ((λ same. omega arith), there)
  at_set (x ∷ l) (suc i) zero a b there = inr ((λ same. omega arith), there)
  at_set (x ∷ l) (suc i) (suc j) a b there =
      ⊎_elim
      (λ (here : (j ≡ i) × (a ≡ b)). inl (ap suc here.0, here.1))
      (λ (other : (j ≢ i) × (get_elem? l j ≡ some b)). let apart = other.0 in inr ((λ same. apart (omega arith)), other.1))
      (at_set l i j a b there)

  pub set_here : (l : List A) (i : ℕ) (a : A) → i < length l → get_elem? (set l i a) i ≡ some a
  set_here [] i a below = absurd (omega arith)
  set_here (x ∷ l) zero a below = refl
  set_here (x ∷ l) (suc i) a below = set_here l i a (omega arith)

  pub at_index : (l : List A) (i : ℕ) (a : A) → i < length l → a ≡ get_or l i a → get_elem? l i ≡ some a
  at_index [] i a below is = absurd (omega arith)
  at_index (x ∷ l) zero a below is = ap some (sym is)
  at_index (x ∷ l) (suc i) a below is = at_index l i a (omega arith) is

  pub beyond : (l : List A) (i : ℕ) → length l ≤ i → get_elem? l i ≡ none
  beyond [] i over = refl
  beyond (x ∷ l) zero over = absurd (omega arith)
  beyond (x ∷ l) (suc i) over = beyond l i (omega arith)

  pub set_else : (l : List A) (i j : ℕ) (a : A) → j ≢ i → get_elem? (set l i a) j ≡ get_elem? l j
  set_else [] i j a other = refl
  set_else (x ∷ l) zero zero a other = absurd (other refl)
  set_else (x ∷ l) zero (suc j) a other = refl
  set_else (x ∷ l) (suc i) zero a other = refl
  set_else (x ∷ l) (suc i) (suc j) a other = set_else l i j a (λ same. other (ap suc same))

  pub at_longer : (l more : List A) (i : ℕ) (a : A) → get_elem? l i ≡ some a → get_elem? (l ++ more) i ≡ some a
  at_longer [] more i a there = absurd (some-ne-none a (sym there))
  at_longer (x ∷ l) more zero a there = there
  at_longer (x ∷ l) more (suc i) a there = at_longer l more i a there
