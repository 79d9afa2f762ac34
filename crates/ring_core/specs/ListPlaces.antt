-- What stands at a place of a list.
use Rattle.std.proofs.Common.{◌≡◌, ℕ, suc, zero, ◌<◌, List, [], ◌∷◌, length, refl, sym, ◌∙◌, arith}
use mathlib.Core.Option.{some, some-injective}
use lib.ListN.{get_elem?}

module _ {A : Type 0} where
  -- below the length there is an element
  pub at_exists : (l : List A) (i : ℕ) → i < length l → (a : A) × (get_elem? l i ≡ some a)
  at_exists [] i h = absurd (omega arith)
  at_exists (x ∷ xs) zero h = (x, refl)
  at_exists (x ∷ xs) (suc i) h = at_exists xs i (omega arith)

  -- and no more than one
  pub at_one : (l : List A) (i : ℕ) (a b : A) → get_elem? l i ≡ some a → get_elem? l i ≡ some b → Path A a b
  at_one l i a b e f = some-injective a b (sym e ∙ f)
