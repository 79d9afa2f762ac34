-- What stands at a place of a list, as the program finds it.
use Rattle.std.specs.Prelude.{◌≡◌, ℕ, List, Option, Some, None}
use mathlib.Core.Option.{some, none}
use lib.ListN.{get_elem?}

-- what stands at this place, or nothing where the list ends before it
abbrev pub IsFound : {A : Type 0} → List A → ℕ → Option A → Type 0
IsFound l i None = get_elem? l i ≡ none
IsFound l i (Some x) = get_elem? l i ≡ some x
