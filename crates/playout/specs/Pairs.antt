-- A list of numbers with frames, in rising order.
use Rattle.std.specs.Prelude.{◌≡◌, ℕ, ◌+◌, ◌<◌, ◌≤◌, List, [], length, slice_index_or}
use Rattle.std.specs.FinMap as map
use Rattle.std.specs.Ordering.{nat_cmp}
use Rattle.playout.specs.Machine.{Frames}

abbrev pub Pairs : Type 0
Pairs = List (ℕ × List ℕ)

-- the map that it stands for
abbrev pub frames_in : Pairs → Frames
frames_in l = map.from_entries {R = nat_cmp} l

-- the number at place i
abbrev pub key_at : Pairs → ℕ → ℕ
key_at l i = let pair = slice_index_or l i (0, []) in pair.0

-- the numbers rise, so none stands twice
abbrev pub Rises : Pairs → Type 0
Rises l = (i j : ℕ) → i < j → j < length l → key_at l i < key_at l j

-- each number is one of the r from p on
abbrev pub InWindow : ℕ → ℕ → Pairs → Type 0
InWindow r p l = (i : ℕ) → i < length l → (p ≤ key_at l i) × (key_at l i < p + r)

-- the pair at place i has the number
pub record IsAt (l : Pairs) (key i : ℕ) : Type 0 where
  pub in_range : i < length l
  pub has_key : key_at l i ≡ key

-- the number would go at place i
pub record IsGapFor (l : Pairs) (key i : ℕ) : Type 0 where
  pub in_range : i ≤ length l
  pub smaller_before : (j : ℕ) → j < i → key_at l j < key
  pub greater_after : (j : ℕ) → i ≤ j → j < length l → key < key_at l j
