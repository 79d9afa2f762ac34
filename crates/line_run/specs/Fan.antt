-- One relation for each filer, by its number.
use Rattle.std.specs.Prelude.{◌≡◌, ℕ, List, length}
use mathlib.Core.Option.{some}
use lib.ListN.{get_elem?}

-- each place went from these three values to those
pub record Each {A P J : Type 0} (ran : A → P → J → A → P → J → Type 0) (cs : List A) (ps : List P) (js : List J) (cs' : List A) (ps' : List P) (js' : List J) : Type 0 where
  pub callers : length cs' ≡ length cs
  pub links : length ps' ≡ length ps
  pub journals : length js' ≡ length js
  pub each : (i : ℕ) (a : A) (p : P) (j : J) → get_elem? cs i ≡ some a → get_elem? ps i ≡ some p → get_elem? js i ≡ some j
      → (a' : A) × (p' : P) × (j' : J) × (get_elem? cs' i ≡ some a') × (get_elem? ps' i ≡ some p') × (get_elem? js' i ≡ some j') × ran a p j a' p' j'

-- each place has a later value that is kin to what was there
abbrev pub AreKin : {J : Type 0} → (J → J → Type 0) → List J → List J → Type 0
AreKin {J} kin js js' = (i : ℕ) (j : J) → get_elem? js i ≡ some j → (j' : J) × (get_elem? js' i ≡ some j') × kin j j'

-- each element has this
abbrev pub AtEach : {A : Type 0} → (A → Type 0) → List A → Type 0
AtEach {A} has xs = (i : ℕ) (x : A) → get_elem? xs i ≡ some x → has x
